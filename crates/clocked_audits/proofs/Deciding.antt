-- Clocks and stamps tell whether a clock follows.
use Rattle.std.proofs.Common.{◌≡◌, ◌<◌, ◌+◌, ℕ, max, Bool, true, false, if◌then◌else◌, List, length, drop, map, refl, sym, ap, ◌∙◌, subst, arith, inl, inr}
use Rattle.std.proofs.Common.{◌↔◌, Option, Some, None, slice_get, get_or}
use Rattle.std.proofs.lemmas.List.{length-drop, get_or-drop}
use Rattle.std.proofs.lemmas.Option.{slice_get-get_or, same_Some}
use Rattle.ring_net.specs.declared.entry.JournalEntry.{JournalEntry}
use Rattle.graft_model.specs.Setups.{Setup}
use Rattle.graft_model.specs.Parts.{World}
use Rattle.graft_model.specs.Steps.{Event}
use Rattle.graft_actors.specs.Actors.{ActorName, IsActor, number_in, same_name}
use Rattle.graft_actors.specs.Laws.{maker_of}
use Rattle.graft_actors.proofs.Numbers.{same_itself, same_tells}
use Rattle.world_runs.specs.Marks.{is_go}
use Rattle.audit_clocks.specs.declared.clocks.Clocks.{Clocks}
use Rattle.audit_clocks.specs.Clocks.{clock_of, clocks_of, stamps_of}
use Rattle.audit_clocks.specs.Stamps.{next_stamp}
use Rattle.run_clocks.specs.Clocks.{ClockedEvent, FollowsClocks, IsStamp, clock_behind, clocked, greatest, number_taken, on_way, stamps_sent}
use Rattle.clocked_audits.specs.Timed.{IsTimed, MovesNamed, due_clock, named_number, one_if}
use Rattle.clocked_audits.specs.Laws.{ClocksDecide}
use Rattle.clocked_audits.proofs.Moving.{took_is, was_there}

module _ (setup : Setup) (w u : World) (event : Event) (entry : JournalEntry) (earlier : List ClockedEvent) (clocks : Clocks) where
  abbrev this : ClockedEvent
  this = clocked event entry w u

  abbrev next_from : Option ActorName → ℕ
  next_from from = next_stamp (stamps_of clocks) (named_number setup from) (number_in setup (maker_of event))

  module _ (timed : IsTimed setup w earlier clocks) where
    -- the stamp of what is taken from a sender
    first_stamp : (x : ActorName) → IsActor setup x → IsActor setup (maker_of event) → 0 < on_way w x (maker_of event)
        → slice_get (stamps_sent x (maker_of event) earlier) (number_taken x (maker_of event) earlier) ≡ Some (next_from (Some x))
    first_stamp x x_known known some =
        let k = number_taken x (maker_of event) earlier in
        let sent = stamps_sent x (maker_of event) earlier in
        let left = timed.stamps x (maker_of event) x_known known in
        let many = timed.many x (maker_of event) x_known known in
        let long : length (drop k sent) ≡ on_way w x (maker_of event) = ap (λ (xs : List ℕ). length xs) (sym left) ∙ many in
        let there : k < length sent = omega (arith, long, some, length-drop k sent) in
        let none_more : k + 0 ≡ k = omega arith in
        slice_get-get_or sent k 0 there
        ∙ ap (λ (n : ℕ). Some n) (sym (ap (λ (xs : List ℕ). get_or xs 0 0) left ∙ get_or-drop k sent 0 0 ∙ ap (λ (n : ℕ). get_or sent n 0) none_more))

    is_stamp : (from to : Option ActorName) → MovesNamed setup w u (maker_of event) from to → IsStamp earlier this (next_from from)
    is_stamp None to moves = inl (took_is setup w u (maker_of event) None to moves, refl)
    is_stamp (Some x) to moves = inr (
      x,
      took_is setup w u (maker_of event) (Some x) to moves x ∙ ap one_if (same_itself x),
      first_stamp x (moves.from_known x refl) moves.maker_known (was_there setup w u (maker_of event) (Some x) to moves x refl),
    )

    -- no other number is its stamp
    one_stamp : (from to : Option ActorName) → MovesNamed setup w u (maker_of event) from to → (stamp : ℕ) → IsStamp earlier this stamp
        → stamp ≡ next_from from
    one_stamp None to moves stamp (inl none) = none.1
    one_stamp None to moves stamp (inr some) = absurd (let nothing = took_is setup w u (maker_of event) None to moves some.0 in omega (arith, nothing, some.1))
    one_stamp (Some x) to moves stamp (inl none) =
        absurd (let one = took_is setup w u (maker_of event) (Some x) to moves x ∙ ap one_if (same_itself x) in omega (arith, one, none.0 x))
    one_stamp (Some x) to moves stamp (inr some) =
        let same : some.0 ≡ x = by_test (same_name some.0 x) refl (sym (took_is setup w u (maker_of event) (Some x) to moves some.0) ∙ some.1) in
        same_Some stamp (next_from (Some x))
        (sym some.2 ∙ ap (λ (y : ActorName). slice_get (stamps_sent y (maker_of event) earlier) (number_taken y (maker_of event) earlier)) same
        ∙ first_stamp x (moves.from_known x refl) moves.maker_known (was_there setup w u (maker_of event) (Some x) to moves x refl))
      where
        by_test : (t : Bool) → same_name some.0 x ≡ t → one_if t ≡ 1 → some.0 ≡ x
        by_test true e one = same_tells some.0 x e
        by_test false e one = absurd (omega (arith, one))

    -- the clock by stamps and by events
    due_is : IsActor setup (maker_of event) → (stamp : ℕ)
        → (if is_go entry then greatest (map (λ (f : ClockedEvent). f.clock) earlier) else max (clock_behind (maker_of event) earlier) stamp) + 1
        ≡ (if is_go entry then greatest (clocks_of clocks) else max (clock_of clocks (number_in setup (maker_of event))) stamp) + 1
    due_is known stamp = λ i. (if is_go entry then sym timed.all i else max (sym (timed.clock (maker_of event) known) i) stamp) + 1

  -- with the sender's name
  decides_named : IsTimed setup w earlier clocks → (from to : Option ActorName) → MovesNamed setup w u (maker_of event) from to
      → FollowsClocks earlier this ↔ (entry.clock ≡ due_clock setup clocks entry (maker_of event) (named_number setup from))
  decides_named timed from to moves = (
    λ follows. follows.is ∙ due_is timed moves.maker_known follows.stamp
        ∙ ap (λ (stamp : ℕ). (if is_go entry then greatest (clocks_of clocks) else max (clock_of clocks (number_in setup (maker_of event))) stamp) + 1)
        (one_stamp timed from to moves follows.stamp follows.is_stamp),
    λ due. record {
      stamp = next_from from;
      is_stamp = is_stamp timed from to moves;
      is = due ∙ sym (due_is timed moves.maker_known (next_from from));
    },
  )

pub decides : ClocksDecide
decides setup w u event entry earlier clocks from to timed moves =
    subst (λ (o : Option ℕ). FollowsClocks earlier (clocked event entry w u) ↔ (entry.clock ≡ due_clock setup clocks entry (maker_of event) o)) moves.sender_is
    (decides_named setup w u event entry earlier clocks timed moves.sender moves.receiver moves.named)
