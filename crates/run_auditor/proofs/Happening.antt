-- What an actor of an auditor does, as a step of the world for which the auditor stands.
use Rattle.std.proofs.Common.{◌≡◌, ℕ, ◌==◌, List, ◌++◌, Bool, Option, Some, map, inl, inr, refl, sym, ap, ◌∙◌, subst}
use Rattle.std.specs.Prelude.{◌<◌, if◌then◌else◌, option_map}
use Rattle.std.specs.Option.{option_to_list}
use Rattle.std.proofs.lemmas.Bool.{eq-eqb, ne_eqb}
use Rattle.ring_net.specs.declared.entry.JournalEntry.{JournalEntry}
use Rattle.ring_net.specs.Deeds.{Deed}
use Rattle.journal_merge.specs.Worlds as worlds
use Rattle.journal_merge.specs.Worlds.{sends_on, takes_on}
use Rattle.bgp_session.specs.Running.{carried}
use Rattle.graft_model.specs.Parts.{World}
use Rattle.graft_model.specs.Quiet.{Quiet}
use Rattle.graft_model.specs.Setups.{IsSetup, Setup}
use Rattle.graft_model.specs.Steps.{Event, Step}
use Rattle.graft_laws.specs.Facts.{NothingIsDropped}
use Rattle.graft_laws.specs.Keeps.{Reached}
use Rattle.graft_laws.proofs.Runs.{reached_more}
use Rattle.graft_actors.specs.Actors.{ActorName, IsActor, actor_at, number_in}
use Rattle.graft_actors.specs.Acts.{ActsAs, OwnPart}
use Rattle.graft_actors.specs.Items.{thing_of}
use Rattle.graft_actors.specs.Laws.{IsGo, OneEventHasTheEntry, OneWorldIsSeen, code_of, maker_of}
use Rattle.graft_actors.specs.Seen.{part_of}
use Rattle.graft_actors.proofs.Numbers.{there}
use Rattle.world_runs.specs.Labs.{AllMayGo, IsLab, actors_in, net_of}
use Rattle.world_runs.specs.Laws.{AnActIsAStep, NobodyWritesToItself}
use Rattle.clocked_audits.specs.Laws.{DeedsMoveItems}
use Rattle.clocked_audits.specs.Timed.{MovesItems}
use Rattle.world_runs.specs.Runs.{IsStepOfLab}
use Rattle.router_tables.proofs.Points.{one_or_other}
use Rattle.audit_ruling.specs.Rulings.{Parcel}
use Rattle.audit_channels.specs.Channels.{parcels}
use Rattle.run_auditor.specs.States.{StandsFor, lab_of}
use Rattle.run_auditor.specs.declared.auditor.Auditor.{Auditor}
use Rattle.run_auditor.proofs.Made.{deed_step}

-- a laboratory by its actors and its channels
lab_like : (setup : Setup) (lab other : worlds.DeedWorld OwnPart Parcel) (w : World)
    → ((n : ℕ) (x : ActorName) → actor_at setup n ≡ Some x → other.part n ≡ lab.part n) → ((a b : ℕ) → other.channel a b ≡ lab.channel a b)
    → IsLab carried setup lab w → IsLab carried setup other w
lab_like setup lab other w parts channels is = record {
  setups = λ n x e. ap (λ (own : OwnPart). own.setup) (parts n x e) ∙ is.setups n x e;
  names = λ n x e. ap (λ (own : OwnPart). own.name) (parts n x e) ∙ is.names n x e;
  fits = λ a b. subst (AllMayGo carried setup (actor_at setup a) (actor_at setup b)) (sym (channels a b)) (is.fits a b);
  sees = record {
    parts = λ n x e. ap (λ (own : OwnPart). own.part) (parts n x e) ∙ is.sees.parts n x e;
    channels = λ a b. ap (map (thing_of carried setup)) (channels a b) ∙ is.sees.channels a b;
    within = is.sees.within;
  };
}

-- An auditor with the same laboratory stands for the same world.
pub stands_like : (f g : Auditor) (w : World) → g.known.setup ≡ f.known.setup
    → ((n : ℕ) (x : ActorName) → actor_at f.known.setup n ≡ Some x → (lab_of g).part n ≡ (lab_of f).part n)
    → ((a b : ℕ) → parcels g.inboxes.items a b ≡ parcels f.inboxes.items a b) → StandsFor f w → StandsFor g w
stands_like f g w same parts channels s = record {
  sound = subst IsSetup (sym same) s.sound;
  reached = subst (λ (setup : Setup). Reached setup w) (sym same) s.reached;
  lab = subst (λ (setup : Setup). IsLab carried setup (lab_of g) w) (sym same) (lab_like f.known.setup (lab_of f) (lab_of g) w parts channels s.lab);
}

module _ (acts_are_steps : AnActIsAStep carried) (one_event : OneEventHasTheEntry) (one_world : OneWorldIsSeen)
    (f : Auditor) (w : World) (s : StandsFor f w) (nothing : NothingIsDropped f.known.setup w)
    (event : Event) (known : IsActor f.known.setup (maker_of event)) (taken : Option (ℕ × Parcel)) (sent : List (ℕ × Parcel)) where
  abbrev me : ℕ
  me = number_in f.known.setup (maker_of event)

  -- its entry, at some clock
  abbrev entry : JournalEntry
  entry = record { clock = 0; actor = me; kind = (code_of event).kind; a = (code_of event).a; b = (code_of event).b; c = (code_of event).c }

  abbrev deed : Deed Parcel
  deed = record { entry = entry; taken = taken; sent = sent }

  at_me : actor_at f.known.setup me ≡ Some (maker_of event)
  at_me = there f.known.setup (maker_of event) known

  module _ (own : OwnPart) (acted : ActsAs carried (record { setup = f.known.setup; name = maker_of event; part = part_of w (maker_of event) }) entry taken sent own)
      (rest : ℕ → ℕ → List Parcel) (takes : (a b : ℕ) → parcels f.inboxes.items a b ≡ takes_on deed a b ++ rest a b)
      (quiet : IsGo entry → Quiet f.known.setup w) where
    abbrev next : worlds.DeedWorld OwnPart Parcel
    next = record { part = λ n. if n == me then own else (lab_of f).part n; channel = λ a b. rest a b ++ sends_on deed a b }

    part_here : next.part me ≡ own
    part_here = ap (λ (b : Bool). let x : OwnPart = if b then own else (lab_of f).part me in x) (eq-eqb me me refl)

    part_there : (n : ℕ) → (n ≡ me → ⊥) → next.part n ≡ (lab_of f).part n
    part_there n not = ap (λ (b : Bool). let x : OwnPart = if b then own else (lab_of f).part n in x) (ne_eqb n me not)

    made : IsStepOfLab carried f.known.setup w entry next
    made = acts_are_steps f.known.setup (lab_of f) next deed w (maker_of event) s.sound s.reached s.lab at_me
        (deed_step f.known.setup (lab_of f) next w nothing s.lab deed (maker_of event) at_me rest takes (λ a b. refl) own acted part_here part_there) quiet

    event_is : made.event ≡ event
    event_is = one_event f.known.setup made.event event entry made.entry_of
        (record { there = known; maker = refl; coded = record { kind = refl; a = refl; b = refl; c = refl } })

    -- the world after it
    pub after_act : World
    after_act = made.after

    step_here : Step f.known.setup event w after_act
    unfolding after_act
    step_here = subst (λ (e : Event). Step f.known.setup e w after_act) event_is made.step

    pub step_act : (v : World) → StandsFor f v → Step f.known.setup event v after_act
    step_act v t = subst (λ (u : World). Step f.known.setup event u after_act)
        (sym (one_world f.known.setup (net_of carried f.known.setup (lab_of f)) w v s.lab.sees t.lab.sees)) step_here

    -- what it takes and sends moves between the worlds
    pub moves_act : DeedsMoveItems carried → NobodyWritesToItself → (to : Option ℕ) → map (λ s. s.0) sent ≡ option_to_list to
        → ((n : ℕ) → to ≡ Some n → n < actors_in f.known.setup) → (v : World) → StandsFor f v
        → MovesItems f.known.setup v after_act (maker_of event) (option_map (λ t. t.0) taken) to
    unfolding after_act
    moves_act moves itself to is_to below v t =
        subst (λ (u : World). MovesItems f.known.setup u after_act (maker_of event) (option_map (λ x. x.0) taken) to)
        (sym (one_world f.known.setup (net_of carried f.known.setup (lab_of f)) w v s.lab.sees t.lab.sees))
        (moves f.known.setup (lab_of f) next deed w after_act (maker_of event) to s.lab made.lab
        (deed_step f.known.setup (lab_of f) next w nothing s.lab deed (maker_of event) at_me rest takes (λ a b. refl) own acted part_here part_there)
        at_me (λ r. itself f.known.setup w r s.sound s.reached)
        (λ r. itself f.known.setup after_act r s.sound (reached_more f.known.setup event w after_act s.reached step_here)) is_to below)

    -- the auditor with the actor's next part, and with what it sent, stands for that world
    pub stands_act : (g : Auditor) → g.known.setup ≡ f.known.setup → (lab_of g).part me ≡ own
        → ((n : ℕ) (x : ActorName) → actor_at f.known.setup n ≡ Some x → (n ≡ me → ⊥) → (lab_of g).part n ≡ (lab_of f).part n)
        → ((a b : ℕ) → parcels g.inboxes.items a b ≡ rest a b ++ sends_on deed a b) → StandsFor g after_act
    unfolding after_act
    stands_act g same here others channels = record {
      sound = subst IsSetup (sym same) s.sound;
      reached = subst (λ (setup : Setup). Reached setup after_act) (sym same) (reached_more f.known.setup event w after_act s.reached step_here);
      lab = subst (λ (setup : Setup). IsLab carried setup (lab_of g) after_act) (sym same)
          (lab_like f.known.setup next (lab_of g) after_act parts channels made.lab);
    }
      where
        parts : (n : ℕ) (x : ActorName) → actor_at f.known.setup n ≡ Some x → (lab_of g).part n ≡ next.part n
        parts n x e = elim (one_or_other me n) [
          | inl is ↦ subst (λ (m : ℕ). (lab_of g).part m ≡ next.part m) (sym is) (here ∙ sym part_here)
          | inr not ↦ others n x e not ∙ sym (part_there n not)
        ]
