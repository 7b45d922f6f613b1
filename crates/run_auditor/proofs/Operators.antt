-- What the operator decides, as a ruling on the auditor's world.
use Rattle.std.proofs.Common.{◌≡◌, ℕ, ◌+◌, ◌++◌, List, [], ◌∷◌, ◌<◌, map, Option, Some, None, option_map, inl, inr, refl, sym, ap, ◌∙◌, subst}
use Rattle.std.specs.List.{AllByRecursion}
use Rattle.ring_net.specs.declared.entry.JournalEntry.{JournalEntry}
use Rattle.ring_net.specs.Deeds.{Deed}
use Rattle.journal_merge.specs.Worlds.{sends_on, takes_on}
use Rattle.graft_model.specs.OperatorRows.{OperatorTaken}
use Rattle.graft_model.specs.Quiet.{Quiet}
use Rattle.graft_actors.specs.Items.{thing_of}
use Rattle.bgp_session.specs.Running.{carried}
use Rattle.graft_model.specs.Parts.{OperatorPart, World}
use Rattle.graft_model.specs.Codes.{operator_code}
use Rattle.graft_model.specs.Setups.{Setup}
use Rattle.graft_model.specs.Steps.{ByOperator, OperatorStep, operator_row}
use Rattle.graft_model.specs.declared.event.OperatorEvent.{OperatorEvent}
use Rattle.graft_model.specs.declared.event.OperatorEvent.TheVariants.{Go}
use Rattle.graft_laws.specs.Facts.{NothingIsDropped}
use Rattle.graft_actors.specs.Actors.{ActorName, FarSide, IsActor, Operator, Router, actor_at, number_in}
use Rattle.graft_actors.specs.Acts.{ActsAs}
use Rattle.graft_actors.specs.Laws.{ActorsHaveNumbers, IsGo, maker_of}
use Rattle.graft_actors.specs.Makes.{numbered, sent_by_operator, taken_by_operator}
use Rattle.graft_actors.proofs.Numbers.{of_number, some_same, there}
use Rattle.world_runs.specs.Labs.{actors_in}
use Rattle.clocked_audits.specs.Timed.{MovesItems}
use Rattle.router_tables.proofs.Points.{one_or_other}
use Rattle.audit_ruling.specs.Rulings.{Holds, HoldsNever, HoldsTaking, Parcel, OperatorRules, OperatorRulesTaking, operator_own, operator_takes}
use Rattle.audit_ruling.specs.Senders.{TheOperatorTakesFromTheNamed, operator_sender, from_operator_taken}
use Rattle.audit_ruling.specs.declared.ruling.Ruling.{Ruling}
use Rattle.audit_ruling.specs.declared.ruling.Ruling.TheVariants.{Refused, Silent, Sends}
use Rattle.audit_channels.specs.Channels.{IsSquare, parcels, parcels_in}
use Rattle.audit_operator.specs.Decides.{DecidesOperator, DecidesOperatorTaking, KeepsOperator}
use Rattle.audit_operator.specs.Parts.{operator_part}
use Rattle.audit_channels.specs.declared.channel.Channel.{Channel}
use Rattle.audit_channels.specs.declared.inboxes.Inbox.{Inbox}
use Rattle.run_auditor.specs.Grounds.{Grounds}
use Rattle.run_auditor.specs.Ruled.{Happened, RulesOn}
use Rattle.run_auditor.specs.Sent.{HasSent}
use Rattle.run_auditor.specs.Sound.{AuditorInvariant}
use Rattle.run_auditor.specs.States.{StandsFor, lab_of, own_of}
use Rattle.run_auditor.specs.declared.auditor.Auditor.{Auditor}
use Rattle.run_auditor.proofs.Happening.{after_act, moves_act, stands_act, stands_like, step_act}
use Rattle.run_auditor.proofs.Made.{as_thing, operator_acts, operator_took, none_sent, one_there, sent_there, welcome}
use Rattle.run_auditor.proofs.Taken.{ChannelSet, IsOther, all_still, came_out, none_out}
use Rattle.run_auditor.proofs.Seen.{operator_is}
use Rattle.run_auditor.proofs.Nowhere.{operator_alone, operator_taking}

-- The auditor's operator is another one now.
module _ (f g : Auditor) (inv : AuditorInvariant f) (same : g ≡ record f { operator = g.operator; inboxes = g.inboxes }) where
  abbrev me : ℕ
  me = number_in f.known.setup Operator

  at_me : actor_at f.known.setup me ≡ Some Operator
  at_me = there f.known.setup Operator tt

  pub known_same : g.known.setup ≡ f.known.setup
  known_same = ap (λ (h : Auditor). h.known.setup) same

  own_x : (lab_of f).part me ≡ operator_own f.known.setup (operator_part f.operator)
  own_x = ap (own_of f) at_me

  pub own_y : (lab_of g).part me ≡ operator_own f.known.setup (operator_part g.operator)
  own_y = ap (λ (h : Auditor). own_of h (actor_at h.known.setup me)) same ∙ ap (own_of (record f { operator = g.operator; inboxes = g.inboxes })) at_me

  by_name : (n : ℕ) (z : ActorName) → actor_at f.known.setup n ≡ Some z → (n ≡ me → ⊥)
      → own_of (record f { operator = g.operator; inboxes = g.inboxes }) (Some z) ≡ own_of f (Some z)
  by_name n (Router q) e not = refl
  by_name n (FarSide q) e not = refl
  by_name n Operator e not = absurd (not (of_number f.known.setup n Operator e).1)

  pub others : (n : ℕ) (z : ActorName) → actor_at f.known.setup n ≡ Some z → (n ≡ me → ⊥) → (lab_of g).part n ≡ (lab_of f).part n
  others n z e not = ap (λ (h : Auditor). own_of h (actor_at h.known.setup n)) same
      ∙ (ap (own_of (record f { operator = g.operator; inboxes = g.inboxes })) e ∙ (by_name n z e not ∙ sym (ap (own_of f) e)))

  -- its part is the world's
  pub part_is : (w : World) → StandsFor f w → operator_part f.operator ≡ w.operator
  part_is w s = operator_is f inv w s

  -- the auditor is sound where it stands for a world, whatever is on its way
  pub sound_then : KeepsOperator f.operator g.operator → (h : Auditor) → h ≡ record f { operator = g.operator; inboxes = h.inboxes }
      → IsSquare (actors_in f.known.setup) h.inboxes.items → (w : World) → StandsFor h w → AuditorInvariant h
  sound_then keeps h is_h square w stands = subst AuditorInvariant (sym is_h) (record {
    world = w;
    stands = subst (λ (a : Auditor). StandsFor a w) is_h stands;
    few_routers = inv.few_routers;
    few_peerings = inv.few_peerings;
    all_routers = inv.all_routers;
    all_far_sides = inv.all_far_sides;
    routers = λ q z e. let old = inv.routers q z e in record { setup = old.setup; number = old.number; sound = old.sound };
    far_sides = λ q z e. let old = inv.far_sides q z e in record { setup = old.setup; number = old.number; sound = old.sound };
    operator_setup = keeps.setup ∙ inv.operator_setup;
    operator = keeps.sound;
    square = square;
  })

  -- ---- nothing happens

  module _ (still : (a b : ℕ) → parcels g.inboxes.items a b ≡ parcels f.inboxes.items a b) (square : IsSquare (actors_in f.known.setup) g.inboxes.items)
      (part_same : operator_part g.operator ≡ operator_part f.operator) (keeps : KeepsOperator f.operator g.operator) where
    stays : (w : World) → StandsFor f w → StandsFor g w
    stays w s = stands_like f g w known_same parts still s
      where
        parts : (n : ℕ) (z : ActorName) → actor_at f.known.setup n ≡ Some z → (lab_of g).part n ≡ (lab_of f).part n
        parts n z e = elim (one_or_other me n) [
          | inl here ↦ subst (λ (m : ℕ). (lab_of g).part m ≡ (lab_of f).part m) (sym here)
              (own_y ∙ (ap (operator_own f.known.setup) part_same ∙ sym own_x))
          | inr not ↦ others n z e not
        ]

    pub refused : (event : OperatorEvent) → ((w after : World) → StandsFor f w → OperatorStep f.known.setup event w after → ⊥)
        → RulesOn (ByOperator event) Refused f g
    refused event never = record {
      setup = known_same;
      none = λ w after s step. never w after s step;
      stands = stays;
      sound = sound_then keeps g same square inv.world (stays inv.world inv.stands);
    }

    -- the row in the world, where it never holds in the operator's own laboratory
    never_in : (event : OperatorEvent) (taken : Option OperatorTaken)
        → HoldsNever (operator_row f.operator.known.setup event) sent_by_operator (operator_part f.operator) taken → (w : World) → StandsFor f w
        → HoldsNever (operator_row f.known.setup event) sent_by_operator (w.operator) taken
    never_in event taken never w s = subst (λ (part : OperatorPart). HoldsNever (operator_row f.known.setup event) sent_by_operator part taken) (part_is w s)
        (subst (λ (setup : Setup). HoldsNever (operator_row setup event) sent_by_operator (operator_part f.operator) taken) inv.operator_setup never)

    module _ (named : TheOperatorTakesFromTheNamed) (event : OperatorEvent) where
      pub refuses_alone : operator_sender event ≡ None
          → HoldsNever (operator_row f.operator.known.setup event) sent_by_operator (operator_part f.operator) None
          → RulesOn (ByOperator event) Refused f g
      refuses_alone alone never =
          refused event (λ w after s step. operator_alone f.known.setup named w event alone (never_in event None never w s) after step)

      pub refuses_taking : (numbers : ActorsHaveNumbers) (from : ActorName) → operator_sender event ≡ Some from → IsActor f.known.setup from
          → ((item : Parcel) (more : List Parcel) → parcels f.inboxes.items (number_in f.known.setup from) me ≡ item ∷ more
          → HoldsNever (operator_row f.operator.known.setup event) sent_by_operator (operator_part f.operator)
          (operator_takes from (thing_of carried f.operator.known.setup item)))
          → RulesOn (ByOperator event) Refused f g
      refuses_taking numbers from sender there never = refused event (λ w after s step.
          operator_taking f.known.setup named w event numbers (lab_of f) s.lab me at_me from sender there
          (λ item more first. never_in event (operator_takes from (thing_of carried f.known.setup item))
          (subst (λ (setup : Setup). HoldsNever (operator_row f.operator.known.setup event) sent_by_operator (operator_part f.operator)
          (operator_takes from (thing_of carried setup item))) inv.operator_setup (never item more first)) w s) after step)

  -- ---- it happens

  module _ (grounds : Grounds) (event : OperatorEvent) (took : Option OperatorTaken) (taken : Option (ℕ × Parcel)) (sent : List (ℕ × Parcel)) (keeps : KeepsOperator f.operator g.operator)
      (is_taken : option_map (as_thing f.known.setup) taken ≡ option_map (λ t. numbered f.known.setup (taken_by_operator t)) took)
      (from_is : option_map (λ t. t.0) taken ≡ option_map (number_in f.known.setup) (operator_sender event))
      (giver : (x : ActorName) → operator_sender event ≡ Some x → IsActor f.known.setup x)
      (square : IsSquare (actors_in f.known.setup) g.inboxes.items)
      (holds : Holds (operator_row f.operator.known.setup event) sent_by_operator
      (operator_own f.operator.known.setup (operator_part f.operator)) (operator_part f.operator) took sent (operator_part g.operator)) where
    abbrev w : World
    w = inv.world

    holds_here : Holds (operator_row f.known.setup event) sent_by_operator (operator_own f.known.setup (w.operator)) (w.operator) took sent (operator_part g.operator)
    holds_here = subst (λ (part : OperatorPart). Holds (operator_row f.known.setup event) sent_by_operator (operator_own f.known.setup part) part took sent
        (operator_part g.operator)) (part_is w inv.stands)
        (subst (λ (setup : Setup). Holds (operator_row setup event) sent_by_operator (operator_own setup (operator_part f.operator)) (operator_part f.operator)
        took sent (operator_part g.operator)) inv.operator_setup holds)

    abbrev own_entry : JournalEntry
    own_entry =
        record { clock = 0; actor = me; kind = (operator_code event).kind; a = (operator_code event).a; b = (operator_code event).b; c = (operator_code event).c }

    abbrev own_deed : Deed Parcel
    own_deed = record { entry = own_entry; taken = taken; sent = sent }

    nothing : NothingIsDropped f.known.setup w
    nothing = grounds.welcome f.known.setup w inv.stands.sound inv.stands.reached

    -- what is taken comes out of its channel
    module _ (quiet : IsGo own_entry → Quiet f.known.setup w) (takes : (a b : ℕ) → parcels f.inboxes.items a b ≡ takes_on own_deed a b ++ parcels g.inboxes.items a b) where
      acted : ActsAs carried (operator_own f.known.setup (w.operator)) own_entry taken sent (operator_own f.known.setup (operator_part g.operator))
      acted = operator_acts f.known.setup own_entry taken sent event (w.operator) (operator_part g.operator) took
          (record { kind = refl; a = refl; b = refl; c = refl }) is_taken holds_here
          (welcome f.known.setup (lab_of f) (record { part = (lab_of f).part; channel = λ a b. parcels g.inboxes.items a b ++ sends_on own_deed a b }) w nothing
          inv.stands.lab own_deed Operator at_me (λ a b. parcels g.inboxes.items a b) takes (λ a b. refl))

      after_it : World
      after_it = after_act grounds.steps grounds.events grounds.worlds f w inv.stands nothing (ByOperator event) tt taken sent
          (operator_own f.known.setup (operator_part g.operator)) acted (λ a b. parcels g.inboxes.items a b) takes quiet

      module _ (sent_to : Auditor) (has : HasSent me g sent sent_to) where
        known_then : sent_to.known.setup ≡ f.known.setup
        known_then = ap (λ (h : Auditor). h.known.setup) has.same ∙ known_same

        part_then : (n : ℕ) → (lab_of sent_to).part n ≡ (lab_of g).part n
        part_then n = ap (λ (h : Auditor). own_of h (actor_at h.known.setup n)) has.same

        stands_then : StandsFor sent_to after_it
        unfolding after_it
        stands_then = stands_act grounds.steps grounds.events grounds.worlds f w inv.stands nothing (ByOperator event) tt taken sent
            (operator_own f.known.setup (operator_part g.operator)) acted (λ a b. parcels g.inboxes.items a b) takes quiet
            sent_to known_then (part_then me ∙ own_y) (λ n z e not. part_then n ∙ others n z e not)
            has.channels

        whole_then : sent_to ≡ record f { operator = g.operator; inboxes = sent_to.inboxes }
        whole_then = has.same ∙ ap (λ (h : Auditor). let k : Auditor = record h { inboxes = sent_to.inboxes } in k) same

        pub sound_sent : AuditorInvariant sent_to
        sound_sent = sound_then keeps sent_to whole_then (has.square (actors_in f.known.setup) square) after_it stands_then

      pub happens : Happened (ByOperator event) f sent g
      unfolding after_it
      happens = record {
        setup = known_same;
        after = after_it;
        step = step_act grounds.steps grounds.events grounds.worlds f w inv.stands nothing (ByOperator event) tt taken sent
            (operator_own f.known.setup (operator_part g.operator)) acted (λ a b. parcels g.inboxes.items a b) takes quiet;
        stands = stands_then;
        sound = sound_sent;
        there = all_there;
        square = square;
        giver = giver;
        moves = λ v t to is_to. subst (λ (from : Option ℕ). MovesItems f.known.setup v after_it (maker_of (ByOperator event)) from to) from_is
            (moves_act grounds.steps grounds.events grounds.worlds f w inv.stands nothing (ByOperator event) tt taken sent
            (operator_own f.known.setup (operator_part g.operator)) acted (λ a b. parcels g.inboxes.items a b) takes quiet grounds.moves grounds.itself to is_to
            (one_there (actors_in f.known.setup) sent to all_there is_to) v t);
        at_go = λ is. let same : event ≡ Go = cc in none_sent f.known.setup sent (holds_here.is_sent ∙ ap (map (λ s. numbered f.known.setup (sent_by_operator s)))
            (subst (λ (e : OperatorEvent). operator_row f.known.setup e w.operator took holds_here.gave (operator_part g.operator)) same holds_here.row).sends);
      }
        where
          all_there : AllByRecursion (λ x. x.0 < actors_in f.known.setup) sent
          all_there = sent_there (operator_own f.known.setup w.operator) sent holds_here.fit

  -- ---- what it decides

  module _ (grounds : Grounds) (event : OperatorEvent) where
    -- an event that takes nothing
    pub decided : operator_sender event ≡ None → ((operator_code event).kind ≡ (operator_code Go).kind → Quiet f.known.setup inv.world) → g.inboxes.items ≡ f.inboxes.items → (ruling : Ruling) → DecidesOperator event f.operator ruling g.operator
        → RulesOn (ByOperator event) ruling f g
    decided alone quiet boxes ruling d = by_ruling ruling d.rules where
      still : (a b : ℕ) → parcels g.inboxes.items a b ≡ parcels f.inboxes.items a b
      still a b = ap (λ (xs : List Inbox). parcels xs a b) boxes

      square : IsSquare (actors_in f.known.setup) g.inboxes.items
      square = subst (IsSquare (actors_in f.known.setup)) (sym boxes) inv.square

      made : (sent : List (ℕ × Parcel)) → Holds (operator_row f.operator.known.setup event) sent_by_operator (operator_own f.operator.known.setup (operator_part f.operator)) (operator_part f.operator) None sent (operator_part g.operator) → Happened (ByOperator event) f sent g
      made sent holds = happens grounds event None None sent d.keeps refl
          (ap (option_map (number_in f.known.setup)) (sym alone)) (λ x e. let none : None ≡ Some x = sym alone ∙ e in absurd cc) square holds quiet
          (none_out (parcels f.inboxes.items) (parcels g.inboxes.items) me still)

      by_ruling : (u : Ruling) → OperatorRules f.operator.known.setup event (operator_part f.operator) u (operator_part g.operator) → RulesOn (ByOperator event) u f g
      by_ruling Refused rules = refuses_alone still square rules.0 d.keeps grounds.operator event alone rules.1
      by_ruling Silent rules = made [] rules
      by_ruling (Sends to item) rules = made ((to, item) ∷ []) rules

    module _ (from : ActorName) (sender : operator_sender event ≡ Some from) where
      abbrev giver : ℕ
      giver = number_in f.known.setup from

      -- an event that takes the first item from this actor, and no other one
      pub decided_taking : IsActor f.known.setup from → ((operator_code event).kind ≡ (operator_code Go).kind → Quiet f.known.setup inv.world) → IsSquare (actors_in f.known.setup) g.inboxes.items
          → ((a b : ℕ) → IsOther giver me a b → parcels g.inboxes.items a b ≡ parcels f.inboxes.items a b)
          → (ruling : Ruling)
          → DecidesOperatorTaking event from f.operator (parcels f.inboxes.items giver me) ruling g.operator (parcels g.inboxes.items giver me)
          → RulesOn (ByOperator event) ruling f g
      decided_taking known quiet square others ruling d = by_ruling ruling d.rules where
        named : (item : Parcel) (sent : List (ℕ × Parcel)) → Holds (operator_row f.operator.known.setup event) sent_by_operator (operator_own f.operator.known.setup (operator_part f.operator)) (operator_part f.operator) (operator_takes from (thing_of carried f.operator.known.setup item)) sent (operator_part g.operator)
            → from_operator_taken (operator_takes from (thing_of carried f.known.setup item)) ≡ Some from
        named item sent holds = subst (λ (setup : Setup). from_operator_taken (operator_takes from (thing_of carried setup item)) ≡ Some from) inv.operator_setup
            (grounds.operator f.operator.known.setup event (operator_part f.operator) (operator_part g.operator) (operator_takes from (thing_of carried f.operator.known.setup item)) holds.gave holds.row ∙ sender)

        made : (sent : List (ℕ × Parcel)) → HoldsTaking (operator_row f.operator.known.setup event) sent_by_operator
            (λ item. operator_takes from (thing_of carried f.operator.known.setup item)) (operator_own f.operator.known.setup (operator_part f.operator)) (operator_part f.operator)
            (parcels f.inboxes.items giver me) sent (operator_part g.operator) (parcels g.inboxes.items giver me)
            → Happened (ByOperator event) f sent g
        made sent h = happens grounds event
            (operator_takes from (thing_of carried f.operator.known.setup h.item)) (Some (giver, h.item)) sent d.keeps
            (subst (λ (setup : Setup). option_map (as_thing f.known.setup) (Some (giver, h.item))
            ≡ option_map (λ t. numbered f.known.setup (taken_by_operator t)) (operator_takes from (thing_of carried setup h.item))) (sym inv.operator_setup)
            (operator_took f.known.setup from h.item (named h.item sent h.holds)))
            (ap (option_map (number_in f.known.setup)) (sym sender)) (λ x e. subst (IsActor f.known.setup) (some_same from x (sym sender ∙ e)) known)
            square h.holds quiet (came_out (parcels f.inboxes.items) (parcels g.inboxes.items) giver me others h.item h.first)

        by_ruling : (u : Ruling) → OperatorRulesTaking f.operator.known.setup event from (operator_part f.operator) (parcels f.inboxes.items giver me) u (operator_part g.operator)
            (parcels g.inboxes.items giver me) → RulesOn (ByOperator event) u f g
        by_ruling Refused rules = refuses_taking (all_still (parcels f.inboxes.items) (parcels g.inboxes.items) giver me others rules.1) square rules.0 d.keeps
            grounds.operator event grounds.numbers from sender known rules.2
        by_ruling Silent rules = made [] rules
        by_ruling (Sends to item) rules = made ((to, item) ∷ []) rules

      -- the same of a channel that is another one now
      pub ruled_taking : IsActor f.known.setup from → ((operator_code event).kind ≡ (operator_code Go).kind → Quiet f.known.setup inv.world) → (channel now : Channel)
          → ChannelSet f.inboxes.items g.inboxes.items giver me channel now
          → (ruling : Ruling) → DecidesOperatorTaking event from f.operator (parcels_in channel) ruling g.operator (parcels_in now) → RulesOn (ByOperator event) ruling f g
      ruled_taking known_from quiet channel now here ruling d =
          decided_taking known_from quiet (here.square (actors_in f.known.setup) inv.square) here.elsewhere ruling
          (subst (λ (xs : List Parcel). DecidesOperatorTaking event from f.operator xs ruling g.operator (parcels g.inboxes.items giver me)) (sym here.was)
          (subst (λ (xs : List Parcel). DecidesOperatorTaking event from f.operator (parcels_in channel) ruling g.operator xs) (sym here.is_now) d))

-- No group begins in a world that isn't quiet.
pub no_group : (f : Auditor) → AuditorInvariant f → ((w : World) → StandsFor f w → ¬ Quiet f.known.setup w) → RulesOn (ByOperator Go) Refused f f
no_group f inv loud = record { setup = refl; none = λ w after s step. loud w s step.may; stands = λ w s. s; sound = inv }
