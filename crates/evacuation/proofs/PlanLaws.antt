-- What holds of each plan.
use Rattle.std.proofs.Common.{◌≡◌, ℕ, suc, ◌+◌, ◌<◌, ◌≤◌, min, ◌⊎◌, inl, inr, List, ◌∷◌, length, Some, None, is_some, refl, sym, ap, ◌∙◌, subst, arith}
use Rattle.std.specs.Prelude.{slice_index}
use Rattle.std.proofs.lemmas.Bool.{cases_eq, cases_lt}
use Rattle.std.proofs.lemmas.List.Sums.{count_by-le-length}
use Rattle.graft_edge.specs.declared.ids.RouterId.{RouterId}
use Rattle.evacuation.specs.Plans.{TargetList, IsLessLoaded, IsFree, IsLeastLoaded, IsFull, Plan, Done, Given, NotGiven, KeepsRooms, GivesAll}
use Rattle.evacuation.specs.Plans.{AreAtMost, one_more_load, times_given, number_given, load_after, free_places}
use Rattle.evacuation.proofs.Loads.{one_more_load-same, times_given-none, times_given-same, number_given-none}
use Rattle.evacuation.proofs.Loads.{number_given-some, load_after-one_more, first_or_later}
use Rattle.evacuation.proofs.FreePlaces.{free_places-one_more, free_places-full, IsGivenRoom-earlier, number_given-le-free_places, capped, slice_index-capped}

module _ (rooms : List ℕ) (from : ℕ) where
  pub length-plan : (loads : List ℕ) (count : ℕ) (targets : TargetList) → Plan rooms from loads count targets → length targets ≡ count
  length-plan loads _ _ Done = refl
  length-plan loads _ _ (Given {count = count} {targets = targets} r least rest) = ap suc (length-plan (one_more_load loads r.0) count targets rest)
  length-plan loads _ _ (NotGiven {count = count} {targets = targets} full rest) = ap suc (length-plan loads count targets rest)

  -- It keeps the rooms.
  pub KeepsRooms-plan : (loads : List ℕ) (count : ℕ) (targets : TargetList) → Plan rooms from loads count targets → KeepsRooms loads rooms from targets
  KeepsRooms-plan loads _ _ Done = λ r some. absurd (omega arith)
  KeepsRooms-plan loads _ _ (Given {count = count} {targets = targets} target least rest) = λ r some. elim (first_or_later r target targets some) [
    | inl first ↦
        let times = times_given-same r target targets first.0 in
        record {
          in_range = omega (arith, least.free.in_range, first.0);
          other = λ e. least.free.other (sym first.0 ∙ e);
          within_room = subst (λ q. slice_index loads q + times_given r (Some target ∷ targets) ≤ slice_index rooms q) (sym first.0) (omega (
            arith,
            least.free.below_room,
            first.1,
          ));
        }
    | inr later ↦
        let room = KeepsRooms-plan (one_more_load loads target.0) count targets rest r later in
        IsGivenRoom-earlier rooms from loads target targets least.free.in_range r room
  ]
  KeepsRooms-plan loads _ _ (NotGiven {count = count} {targets = targets} full rest) = λ r some.
      let room = KeepsRooms-plan loads count targets rest r (omega (arith, times_given-none r targets)) in
      record { in_range = room.in_range; other = room.other; within_room = omega (arith, room.within_room, times_given-none r targets) }

  -- It gives as many peerings as there are free places for.
  pub number_given-plan : (loads : List ℕ) (count : ℕ) (targets : TargetList) → Plan rooms from loads count targets
      → number_given targets ≡ min count (free_places loads rooms from)
  number_given-plan loads _ _ Done = omega arith
  number_given-plan loads _ _ (Given {count = count} {targets = targets} target least rest) =
      omega (
        arith,
        number_given-some target targets,
        free_places-one_more rooms from loads target.0 least.free,
        number_given-plan (one_more_load loads target.0) count targets rest,
      )
  number_given-plan loads _ _ (NotGiven {count = count} {targets = targets} full rest) =
      omega (arith, number_given-none targets, free_places-full rooms from loads full, number_given-plan loads count targets rest)

  -- ---- the greatest load

  -- If the router that is given a peering has this load already, so have all that are below their room.
  full_below : (most : ℕ) (loads : List ℕ) (r : ℕ) → IsLeastLoaded loads rooms from r → most ≤ slice_index loads r → IsFull loads (capped most rooms) from
  full_below most loads r least reached = λ q free.
      let below = free.below_room in
      let room = slice_index-capped most rooms q in
      elim (cases_eq q r) [
        | inl same ↦ absurd (omega (arith, ap (slice_index loads) same))
        | inr other ↦ elim (least.least q (record { in_range = free.in_range; other = free.other; below_room = omega arith }) other) [
          | inl less ↦ omega arith
          | inr equal ↦ omega (arith, equal.0)
        ]
      ]

  free_below : (most : ℕ) (loads : List ℕ) (r : ℕ) → IsFree loads rooms from r → slice_index loads r < most → IsFree loads (capped most rooms) from r
  free_below most loads r free less = record {
    in_range = free.in_range;
    other = free.other;
    below_room = omega (
      arith,
      free.below_room,
      slice_index-capped most rooms r,
    );
  }

  -- Either the routers that are given peerings stay within a load, or below that load there are too few free places for all.
  within_or_too_few : (most : ℕ) (loads : List ℕ) (count : ℕ) (targets : TargetList) → Plan rooms from loads count targets → number_given targets ≡ count
      → (free_places loads (capped most rooms) from < count) ⊎ ((r : ℕ) → 0 < times_given r targets → load_after loads targets r ≤ most)
  within_or_too_few most loads _ _ Done all = inr (λ r some. absurd (omega arith))
  within_or_too_few most loads _ _ (NotGiven {count = count} {targets = targets} full rest) all =
      absurd (omega (arith, number_given-none targets, count_by-le-length is_some targets, length-plan loads count targets rest))
  within_or_too_few most loads _ _ (Given {count = count} {targets = targets} target least rest) all = elim (cases_lt (slice_index loads target.0) most) [
    | inr reached ↦ inl (omega (arith, free_places-full (capped most rooms) from loads (full_below most loads target.0 least reached)))
    | inl less ↦
        let free = free_places-one_more (capped most rooms) from loads target.0 (free_below most loads target.0 least.free less) in
        elim (within_or_too_few most (one_more_load loads target.0) count targets rest (omega (arith, number_given-some target targets))) [
          | inl few ↦ inl (omega arith)
          | inr within ↦ inr (λ r some.
              let same = load_after-one_more loads target targets least.free.in_range r in
              elim (first_or_later r target targets some) [
                | inl first ↦
                    omega (arith, one_more_load-same loads target.0 least.free.in_range, ap (slice_index (one_more_load loads target.0)) first.0, first.1)
                | inr later ↦ omega (arith, within r later)
              ])
        ]
  ]

  KeepsRooms-capped : (most : ℕ) (loads : List ℕ) (targets : TargetList) → KeepsRooms loads rooms from targets → AreAtMost most loads from targets
      → KeepsRooms loads (capped most rooms) from targets
  KeepsRooms-capped most loads targets keeps within = λ r some.
      let room = keeps r some in
      record {
        in_range = room.in_range;
        other = room.other;
        within_room = omega (
          arith,
          room.within_room,
          within r room.in_range room.other,
          slice_index-capped most rooms r,
        );
      }

  -- Where a plan gives all peerings, no other way to give all stays within a load that the plan passes.
  pub AreAtMost-plan : (loads : List ℕ) (count : ℕ) (targets : TargetList) → Plan rooms from loads count targets → number_given targets ≡ count
      → (other : TargetList) → GivesAll loads rooms from count other → (most : ℕ) → AreAtMost most loads from other → AreAtMost most loads from targets
  AreAtMost-plan loads count targets plan all other gives most within = λ r there apart. elim (cases_eq (times_given r targets) 0) [
    | inl none ↦ omega (arith, within r there apart)
    | inr some ↦ elim (within_or_too_few most loads count targets plan all) [
      | inl few ↦
          let keeps = KeepsRooms-capped most loads other gives.rooms_kept within in
          absurd (omega (arith, few, gives.all, number_given-le-free_places (capped most rooms) from other loads keeps))
      | inr kept ↦ kept r (omega arith)
    ]
  ]

  -- ---- there is one plan

  one_least : (loads : List ℕ) (r q : ℕ) → IsLeastLoaded loads rooms from r → IsLeastLoaded loads rooms from q → r ≡ q
  one_least loads r q one other = elim (cases_eq r q) [
    | inl same ↦ same
    | inr apart ↦
        let before : IsLessLoaded loads r q = one.least q other.free (λ e. apart (sym e)) in
        let behind : IsLessLoaded loads q r = other.least r one.free apart in
        absurd (omega arith)
  ]

  same_router : (one other : RouterId) → one.0 ≡ other.0 → one ≡ other
  same_router one other same = ap {B = RouterId} (λ (n : ℕ). record { 0 = n }) same

  pub one_plan : (loads : List ℕ) (count : ℕ) (one other : TargetList) → Plan rooms from loads count one → Plan rooms from loads count other → one ≡ other
  one_plan loads _ _ _ Done Done = refl
  one_plan loads _ _ _ (Given {count = count} {targets = one} r least rest) (Given {targets = other} q least' rest') =
      let same = one_least loads r.0 q.0 least least' in
      let rest'' = subst (λ n. Plan rooms from (one_more_load loads n) count other) (sym same) rest' in
      ap {B = TargetList} (λ (t : RouterId). Some t ∷ one) (same_router r q same)
      ∙ ap (λ ts. Some q ∷ ts) (one_plan (one_more_load loads r.0) count one other rest rest'')
  one_plan loads _ _ _ (Given {count = count} r least rest) (NotGiven full rest') = absurd (full r.0 least.free)
  one_plan loads _ _ _ (NotGiven full rest) (Given q least rest') = absurd (full q.0 least.free)
  one_plan loads _ _ _ (NotGiven {count = count} {targets = one} full rest) (NotGiven {targets = other} full' rest') =
      ap (λ ts. None ∷ ts) (one_plan loads count one other rest rest')
