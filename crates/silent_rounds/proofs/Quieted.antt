-- The law of silent worlds, from the laws of the crates below.
use Rattle.std.proofs.Common.{◌≡◌, ◌<◌, ◌≤◌, ◌+◌, ℕ, List, [], ◌∷◌, length, get_or, Some, None, refl, ap, subst, arith}
use Rattle.std.specs.Prelude.{min, slice_get}
use Rattle.std.proofs.lemmas.Option.{slice_get-get_or}
use Rattle.link_bag.specs.declared.plan.Fault.{Fault}
use Rattle.ring_net.specs.declared.entry.JournalEntry.{JournalEntry}
use Rattle.graft_model.specs.Setups.{Setup, IsSetup}
use Rattle.graft_model.specs.Parts.{World}
use Rattle.graft_model.specs.Quiet.{Quiet}
use Rattle.graft_laws.specs.Keeps.{Reached}
use Rattle.graft_laws.specs.Ranges.{IsInRange}
use Rattle.graft_actors.specs.Actors.{ActorName, number_in, IsActor}
use Rattle.graft_actors.specs.Seen.{channel_of, IsWithin}
use Rattle.graft_actors.specs.Laws.{NumbersAreOfActors}
use Rattle.settled_check.specs.Worlds.{QuietIsNothingLeft, IsOnTheWay}
use Rattle.still_grafts.specs.Still.{StillWorldsHaveNoGraftLeft}
use Rattle.world_runs.specs.Laws.{WorldsAreOnTheWay}
use Rattle.world_nodes.specs.Looks.{IsLowest, IsStuckIn}
use Rattle.real_rounds.specs.Entries.{between, count_taken_from}
use Rattle.real_rounds.specs.Whole.{Slices, RealRound, Drains, RealRounds}
use Rattle.silent_rounds.specs.Silence.{AreSilent, AreShort}
use Rattle.silent_rounds.specs.Laws.{SilentLinksAreEmpty, SilentWorldsAreQuiet}
use Rattle.silent_rounds.proofs.SameWorlds.{IsSilent, silent_round, router_rests, far_rests, nothing_to_order}
use Rattle.silent_rounds.proofs.NothingLeft.{WhatIsToldCanBeWritten, SessionsAreUnbroken, IsResting, nothing_left}

none_long : {A : Type 0} (xs : List A) → length xs ≡ 0 → xs ≡ []
none_long [] e = refl
none_long (x ∷ xs) e = absurd (omega (arith, e))

-- what drains over two rounds in which nobody takes anything is empty
drained : (setup : Setup) (w : World) (one other : Slices) → ((n : ℕ) → one n ≡ []) → ((n : ℕ) → other n ≡ []) → Drains setup w one other
    → (x y : ActorName) → IsActor setup x → IsActor setup y → channel_of w (Some x) (Some y) ≡ []
drained setup w one other none_in_one none_in_other drains x y x_known y_known =
    let first : count_taken_from x (one (number_in setup y)) ≡ 0 = ap (λ (es : List JournalEntry). count_taken_from x es) (none_in_one (number_in setup y)) in
    let second : count_taken_from x (other (number_in setup y)) ≡ 0 =
    ap (λ (es : List JournalEntry). count_taken_from x es) (none_in_other (number_in setup y)) in
    none_long (channel_of w (Some x) (Some y)) (nothing (length (channel_of w (Some x) (Some y))) _ _ (drains x y x_known y_known) first second)
  where
    nothing : (n taken more : ℕ) → min 256 n ≤ taken + more → taken ≡ 0 → more ≡ 0 → n ≡ 0
    nothing n taken more le first second = grind arith

module _ (numbers : NumbersAreOfActors) (written : WhatIsToldCanBeWritten) (unbroken : SessionsAreUnbroken)
    (grafts : StillWorldsHaveNoGraftLeft) (on_the_way : WorldsAreOnTheWay) (nothing : QuietIsNothingLeft)
    (empty : SilentLinksAreEmpty) where
  module _ (setup : Setup) (faults : List Fault) (journal : List JournalEntry) (marks : List (List ℕ))
      (sound : IsSetup setup) (ranges : IsInRange setup) (short : AreShort faults)
      (real : RealRounds setup faults journal marks) (k : ℕ) (there : k + 8 < length marks) (silent : AreSilent real.events k 8)
      (free : IsLowest (IsStuckIn setup (real.world (k + 1))) None) where
    abbrev mark : ℕ → List ℕ
    mark i = get_or marks i []

    is_mark : (i : ℕ) → i ≤ k + 8 → slice_get marks i ≡ Some (mark i)
    is_mark i i_in = slice_get-get_or marks i [] (omega (arith, i_in, there))

    -- each of the next rounds is silent
    round : (i : ℕ) → k ≤ i → i < k + 8 → IsSilent (real.world i) (between journal (mark i) (mark (i + 1))) (real.world (i + 1))
    round i first last = silent_round setup (real.world i) (between journal (mark i) (mark (i + 1))) (real.events i) (real.world (i + 1))
        (real.goes i (mark i) (mark (i + 1)) (is_mark i (omega (arith, last))) (is_mark (i + 1) (omega (arith, last)))) (silent i first last)

    here : IsSilent (real.world k) (between journal (mark k) (mark (k + 1))) (real.world (k + 1))
    here = round k (omega arith) (omega arith)

    next_none : (n : ℕ) → between journal (mark (k + 1)) (mark (k + 2)) n ≡ []
    next_none n =
        let two : (k + 1) + 1 ≡ k + 2 = omega arith in
        subst (λ (i : ℕ). between journal (mark (k + 1)) (mark i) n ≡ []) two ((round (k + 1) (omega arith) (omega arith)).none n)

    reached : Reached setup (real.world k)
    reached = let at = real.worlds k (mark k) (is_mark k (omega arith)) in record { events = at.events; run = at.run }

    within : IsWithin setup (real.world k)
    within = real.within k (mark k) (is_mark k (omega arith))

    way : IsOnTheWay setup (real.world k)
    way = on_the_way setup (real.world k) sound reached within

    each : RealRound setup faults (k + 1) (real.world k) (real.links k) (between journal (mark k) (mark (k + 1))) (real.world (k + 1)) (real.links (k + 1))
    each = real.each k (mark k) (mark (k + 1)) (is_mark k (omega arith)) (is_mark (k + 1) (omega arith))

    resting : IsResting setup (real.world k)
    resting = record {
      sound = sound;
      ranges = ranges;
      reached = reached;
      within = within;
      streams = way.streams;
      routers = λ r known.
          router_rests setup r (k + 1) (real.world k) (between journal (mark k) (mark (k + 1))) (real.world (k + 1)) (each.routers r known) here;
      far_sides = λ p known. far_rests setup faults p (k + 1) (real.world k) (real.links k p)
          (between journal (mark k) (mark (k + 1))) (real.world (k + 1)) (real.links (k + 1) p) (each.far_sides p known) here;
      operator = nothing_to_order setup (real.world k) (between journal (mark k) (mark (k + 1))) (real.world (k + 1)) each.operator here;
      channels = drained setup (real.world k) (between journal (mark k) (mark (k + 1))) (between journal (mark (k + 1)) (mark (k + 2))) here.none next_none
          (real.drains k (mark k) (mark (k + 1)) (mark (k + 2)) (is_mark k (omega arith)) (is_mark (k + 1) (omega arith)) (is_mark (k + 2) (omega arith)));
      links = λ p known. empty setup faults journal marks short real k p (omega (arith, there)) known (λ i first last. silent i first (omega (arith, last)));
      stuck = subst (λ (w : World). (p n : ℕ) → ¬ IsStuckIn setup w p n) here.same free;
    }

    quiet : Quiet setup (real.world k)
    quiet = (nothing setup (real.world k) way).0 (nothing_left numbers written unbroken grafts setup (real.world k) resting)

  pub worlds_quiet : SilentWorldsAreQuiet
  worlds_quiet setup faults journal marks sound ranges short real k there silent free =
      quiet setup faults journal marks sound ranges short real k there silent free
