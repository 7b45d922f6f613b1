-- What an actor of a laboratory does is a step of the world.
use Rattle.std.proofs.Common.{◌≡◌, ℕ, Bool, true, false, List, [], ◌∷◌, ◌++◌, Option, Some, None, map}
use Rattle.std.proofs.Common.{option_map, if◌then◌else◌, ◌==◌, refl, sym, ap, ◌∙◌, subst, inl, inr}
use Rattle.std.proofs.lemmas.List.{map-append}
use Rattle.std.proofs.lemmas.Option.{same_Some}
use Rattle.ring_net.specs.declared.entry.JournalEntry.{JournalEntry}
use Rattle.ring_net.specs.Deeds.{Deed, items_for}
use Rattle.journal_merge.specs.Worlds as worlds
use Rattle.journal_merge.specs.Worlds.{taken_of, takes_on, sends_on}
use Rattle.journal_merge.proofs.Orders.{equal_or_not}
use Rattle.graft_steps.specs.declared.item.Item.{Item}
use Rattle.session_value.specs.Sessions.{SessionValue}
use Rattle.graft_model.specs.Setups.{Setup}
use Rattle.graft_model.specs.Parts.{World}
use Rattle.graft_model.specs.Quiet.{Quiet}
use Rattle.graft_laws.specs.Facts.{NothingIsDropped}
use Rattle.graft_actors.specs.Actors.{Thing, ActorName, actor_at}
use Rattle.graft_actors.specs.Makes.{makes}
use Rattle.graft_actors.specs.Seen.{part_of}
use Rattle.graft_actors.specs.Laws.{IsGo, AnEventIsAStep, IsStepOf}
use Rattle.graft_actors.specs.Items.{thing_of}
use Rattle.graft_actors.specs.Acts.{OwnPart, TakesWelcome, SendsFit, ActsAs, acts, things}
use Rattle.world_runs.specs.Labs.{IsLab, net_of}
use Rattle.world_runs.specs.Runs.{IsStepOfLab}
use Rattle.world_runs.proofs.Comes.{own_is, takes_welcome}
use Rattle.world_runs.proofs.Goes.{after_goes}

-- ---- items as things

map_more : {A B : Type 0} (f : A → B) (t : Bool) (x : A) (xs : List A) (ys : List B) → map f xs ≡ ys
    → map f (if t then x ∷ xs else xs) ≡ (if t then f x ∷ ys else ys)
map_more f true x xs ys e = ap (λ zs. f x ∷ zs) e
map_more f false x xs ys e = e

items_map : {A B : Type 0} (f : A → B) (b : ℕ) (sent : List (ℕ × A)) → map f (items_for b sent) ≡ items_for b (map (λ (x : ℕ × A). (x.0, f x.1)) sent)
items_map f b [] = refl
items_map {A} f b (x ∷ sent) = map_more f (x.0 == b) x.1 (items_for b sent) (items_for b (map (λ (y : ℕ × A). (y.0, f y.1)) sent)) (items_map f b sent)

taken_map : {A B : Type 0} (f : A → B) (a : ℕ) (taken : Option (ℕ × A)) → map f (taken_of a taken) ≡ taken_of a (option_map (λ x. (x.0, f x.1)) taken)
taken_map f a None = refl
taken_map f a (Some x) = by_test (x.0 == a) where
  by_test : (t : Bool) → map f (if t then x.1 ∷ [] else []) ≡ (if t then f x.1 ∷ [] else [])
  by_test true = refl
  by_test false = refl

map_if : {A B : Type 0} (f : A → B) (t : Bool) (xs : List A) (ys : List B) → map f xs ≡ ys → map f (if t then xs else []) ≡ (if t then ys else [])
map_if f true xs ys e = e
map_if f false xs ys e = refl

module _ {C : Type 0} (session : C → SessionValue) (setup : Setup) where
  -- the deed over things
  abbrev in_things : Deed (Item C) → Deed Thing
  in_things deed = record { entry = deed.entry; taken = option_map (λ x. (x.0, thing_of session setup x.1)) deed.taken; sent = things session setup deed.sent }

  takes_things : (deed : Deed (Item C)) (a b : ℕ) → map (thing_of session setup) (takes_on deed a b) ≡ takes_on (in_things deed) a b
  takes_things deed a b = map_if (thing_of session setup) (b == deed.entry.actor) (taken_of a deed.taken)
      (taken_of a (in_things deed).taken) (taken_map (thing_of session setup) a deed.taken)

  sends_things : (deed : Deed (Item C)) (a b : ℕ) → map (thing_of session setup) (sends_on deed a b) ≡ sends_on (in_things deed) a b
  sends_things deed a b = map_if (thing_of session setup) (a == deed.entry.actor) (items_for b deed.sent)
      (items_for b (in_things deed).sent) (items_map (thing_of session setup) b deed.sent)

-- ---- one deed

-- what actors do with what is welcome are events by their rows
abbrev pub RowsAreEvents : {C : Type 0} (session : C → SessionValue) → Type 0
RowsAreEvents {C} session = (n : ℕ) (before after : OwnPart) (entry : JournalEntry) (taken : Option (ℕ × Item C)) (sent : List (ℕ × Item C))
    → actor_at before.setup n ≡ Some before.name
    → ActsAs session before entry taken sent after → TakesWelcome session before taken
    → makes before.setup n before.part entry (option_map (λ x. (x.0, thing_of session before.setup x.1)) taken) (things session before.setup sent) after.part

module _ {C : Type 0} (session : C → SessionValue) (rows : RowsAreEvents session) (event_is_a_step : AnEventIsAStep)
    (setup : Setup) (lab next : worlds.DeedWorld OwnPart (Item C)) (deed : Deed (Item C)) (w : World) (x : ActorName)
    (nothing : NothingIsDropped setup w) (is_lab : IsLab session setup lab w)
    (is : actor_at setup deed.entry.actor ≡ Some x) (step : worlds.DeedStep (acts session) lab deed next) where
  acted : ActsAs session (record { setup = setup; name = x; part = part_of w x }) deed.entry deed.taken deed.sent (next.part deed.entry.actor)
  acted = subst (λ (own : OwnPart). ActsAs session own deed.entry deed.taken deed.sent (next.part deed.entry.actor))
      (own_is session setup lab w is_lab deed.entry.actor x is) step.made

  made : makes setup deed.entry.actor (lab.part deed.entry.actor).part deed.entry
      (in_things session setup deed).taken (in_things session setup deed).sent (next.part deed.entry.actor).part
  made = subst (λ (own : OwnPart). makes setup deed.entry.actor own.part deed.entry
      (in_things session setup deed).taken (in_things session setup deed).sent (next.part deed.entry.actor).part)
      (sym (own_is session setup lab w is_lab deed.entry.actor x is))
      (rows deed.entry.actor (record { setup = setup; name = x; part = part_of w x }) (next.part deed.entry.actor) deed.entry
      deed.taken deed.sent is acted (takes_welcome session setup lab w nothing is_lab deed x is step.rest step.takes))

  step_of_things : worlds.DeedStep (makes setup) (net_of session setup lab) (in_things session setup deed) (net_of session setup next)
  step_of_things = record {
    made = made;
    others = λ k ne. ap (λ (own : OwnPart). own.part) (step.others k ne);
    rest = λ a b. map (thing_of session setup) (step.rest a b);
    takes = λ a b. ap (map (thing_of session setup)) (step.takes a b) ∙ map-append (thing_of session setup) (takes_on deed a b) (step.rest a b)
        ∙ ap (λ (things : List Thing). things ++ map (thing_of session setup) (step.rest a b)) (takes_things session setup deed a b);
    sends = λ a b. ap (map (thing_of session setup)) (step.sends a b) ∙ map-append (thing_of session setup) (step.rest a b) (sends_on deed a b)
        ∙ ap (λ (things : List Thing). map (thing_of session setup) (step.rest a b) ++ things) (sends_things session setup deed a b);
  }

  fit : SendsFit session (record { setup = setup; name = x; part = part_of w x }) deed.sent
  fit = elim acted.does [
    | inl event ↦ event.fit
    | inr drop ↦ subst (SendsFit session (record { setup = setup; name = x; part = part_of w x })) (sym drop.sends) tt
  ]

  setups_then : (n : ℕ) (y : ActorName) → actor_at setup n ≡ Some y → (next.part n).setup ≡ setup
  setups_then n y e = elim (equal_or_not n deed.entry.actor) [
    | inl here ↦ ap (λ (k : ℕ). (next.part k).setup) here ∙ acted.setup
    | inr ne ↦ ap (λ (own : OwnPart). own.setup) (step.others n ne) ∙ is_lab.setups n y e
  ]

  names_then : (n : ℕ) (y : ActorName) → actor_at setup n ≡ Some y → (next.part n).name ≡ y
  names_then n y e = elim (equal_or_not n deed.entry.actor) [
    | inl here ↦ ap (λ (k : ℕ). (next.part k).name) here ∙ acted.name ∙ same_Some x y (sym is ∙ ap (actor_at setup) (sym here) ∙ e)
    | inr ne ↦ ap (λ (own : OwnPart). own.name) (step.others n ne) ∙ is_lab.names n y e
  ]

  pub act_is_a_step : (IsGo deed.entry → Quiet setup w) → IsStepOfLab session setup w deed.entry next
  act_is_a_step quiet =
      let s : IsStepOf setup w deed.entry (net_of session setup next) =
      event_is_a_step setup (net_of session setup lab) (net_of session setup next) (in_things session setup deed) w is_lab.sees step_of_things quiet in
      record {
        event = s.event;
        entry_of = s.entry_of;
        after = s.after;
        step = s.step;
        lab = record {
          setups = setups_then;
          names = names_then;
          fits = λ a b. after_goes session setup deed x (part_of w x) is fit a b (takes_on deed a b) (lab.channel a b)
              (step.rest a b) (next.channel a b) (step.takes a b) (step.sends a b) (is_lab.fits a b);
          sees = s.sees;
        };
      }
