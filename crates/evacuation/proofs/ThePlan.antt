-- The list `plan_for` is a plan.
use Rattle.std.proofs.Common.{◌≡◌, ◌≢◌, ℕ, zero, suc, ◌+◌, ◌<◌, ◌≤◌, inl, inr, Bool, true, not, ◌&&◌, eqb, ltb, leb, List, ◌∷◌, length, Option}
use Rattle.std.proofs.Common.{Some, None, MatchOption, ap, ◌∙◌, subst, sym, arith}
use Rattle.std.specs.Prelude.{filter, slice_index}
use Rattle.std.specs.List.{range_with_len}
use Rattle.std.specs.Option.{option_map}
use Rattle.std.proofs.lemmas.Bool.{cases_eq, cases_lt, cond_both, and_parts, and_from, ltb-true, lt-ltb, leb-true, leb-false, eq-eqb, ne_eqb, true≢false}
use Rattle.graft_edge.specs.declared.ids.RouterId.{RouterId}
use Rattle.evacuation.specs.Plans.{TargetList, IsLessLoaded, IsFree, IsLeastLoaded, Plan, Done, Given}
use Rattle.evacuation.specs.Plans.{NotGiven, lesser, least_of, next_router, loads_with, plan_for}

-- ---- the least loaded of `n` routers from a number on

module _ (loads rooms : List ℕ) (from : ℕ) where
  -- the test that `free_routers` are those to pass
  abbrev passes : ℕ → Bool
  passes r = not (eqb r from) && ltb (slice_index loads r) (slice_index rooms r)

  IsFree-passes : (r : ℕ) → r < length loads → passes r ≡ true → IsFree loads rooms from r
  IsFree-passes r there pass =
      let parts = and_parts _ _ pass in
      record {
        in_range = there;
        other = λ same. true≢false (sym parts.0 ∙ ap not (eq-eqb r from same));
        below_room = ltb-true _ _ parts.1;
      }

  passes-IsFree : (r : ℕ) → IsFree loads rooms from r → passes r ≡ true
  passes-IsFree r free = and_from _ _ (ap not (ne_eqb r from free.other)) (lt-ltb _ _ free.below_room)

  -- This one, of `n` routers from `first` on.
  record IsLeastFrom (first n r : ℕ) : Type 0 where
    above : first ≤ r
    free : IsFree loads rooms from r
    least : (q : ℕ) → first ≤ q → q < first + n → IsFree loads rooms from q → q ≢ r → IsLessLoaded loads r q

  -- the least loaded of `n` routers from `first` on, or none
  abbrev IsLeastOf : ℕ → ℕ → Option ℕ → Type 0
  IsLeastOf first n least = MatchOption least ((q : ℕ) → first ≤ q → q < first + n → ¬ IsFree loads rooms from q) (IsLeastFrom first n)

  above_next : (first q : ℕ) → first ≤ q → q ≢ first → first + 1 ≤ q
  above_next first q above other = elim (cases_lt first q) [
    | inl less ↦ omega arith
    | inr more ↦ absurd (other (omega arith))
  ]

  before : (r q : ℕ) → slice_index loads r ≤ slice_index loads q → r < q → IsLessLoaded loads r q
  before r q load less = elim (cases_lt (slice_index loads r) (slice_index loads q)) [
    | inl lighter ↦ inl lighter
    | inr equal ↦ inr (omega arith, less)
  ]

  -- The first router isn't free.
  IsLeastOf-passed : (first n : ℕ) (least : Option ℕ) → ¬ IsFree loads rooms from first → IsLeastOf (first + 1) n least → IsLeastOf first (suc n) least
  IsLeastOf-passed first n None taken none = λ q above below free. elim (cases_eq q first) [
    | inl same ↦ taken (subst (IsFree loads rooms from) same free)
    | inr other ↦ none q (above_next first q above other) (omega arith) free
  ]
  IsLeastOf-passed first n (Some r) taken is = record {
    above = omega (arith, is.above);
    free = is.free;
    least = λ q above below free apart. elim (cases_eq q first) [
      | inl same ↦ absurd (taken (subst (IsFree loads rooms from) same free))
      | inr other ↦ is.least q (above_next first q above other) (omega arith) free apart
    ];
  }

  -- The first router has no more load than the least loaded after it.
  IsLeastFrom-first : (first n r : ℕ) → IsFree loads rooms from first → IsLeastFrom (first + 1) n r → slice_index loads first ≤ slice_index loads r
      → IsLeastFrom first (suc n) first
  IsLeastFrom-first first n r free is light = record {
    above = omega arith;
    free = free;
    least = λ q above below also apart.
        let next = above_next first q above apart in
        elim (cases_eq q r) [
          | inl same ↦ before first q (omega (arith, ap (slice_index loads) same)) (omega arith)
          | inr other ↦ elim (is.least q next (omega arith) also other) [
            | inl less ↦ inl (omega arith)
            | inr equal ↦ before first q (omega (arith, equal.0)) (omega arith)
          ]
        ];
  }

  -- The first router has more load than the least loaded after it.
  IsLeastFrom-later : (first n r : ℕ) → IsLeastFrom (first + 1) n r → slice_index loads r < slice_index loads first → IsLeastFrom first (suc n) r
  IsLeastFrom-later first n r is heavy = record {
    above = omega (arith, is.above);
    free = is.free;
    least = λ q above below also apart. elim (cases_eq q first) [
      | inl same ↦ inl (omega (arith, ap (slice_index loads) same))
      | inr other ↦ is.least q (above_next first q above other) (omega arith) also apart
    ];
  }

  -- The first router is free.
  IsLeastOf-lesser : (first n : ℕ) (least : Option ℕ) → IsFree loads rooms from first → IsLeastOf (first + 1) n least
      → IsLeastOf first (suc n) (lesser loads first least)
  IsLeastOf-lesser first n None free none = record {
    above = omega arith;
    free = free;
    least = λ q above below also apart. absurd (none q (above_next first q above apart) (omega arith) also);
  }
  IsLeastOf-lesser first n (Some r) free is =
      cond_both
      (leb (slice_index loads first) (slice_index loads r))
      (Some first)
      (Some r)
      (IsLeastOf first (suc n))
      (λ light. IsLeastFrom-first first n r free is (leb-true _ _ light))
      (λ heavy. IsLeastFrom-later first n r is (leb-false _ _ heavy))

  IsLeastOf-range : (first n : ℕ) → first + n ≡ length loads → IsLeastOf first n (least_of loads (filter passes (range_with_len first n)))
  IsLeastOf-range first zero all = λ q above below. absurd (omega arith)
  IsLeastOf-range first (suc n) all =
      let routers = filter passes (range_with_len (first + 1) n) in
      let later = IsLeastOf-range (first + 1) n (omega arith) in
      cond_both
      (passes first)
      (first ∷ routers)
      routers
      (λ rs. IsLeastOf first (suc n) (least_of loads rs))
      (λ pass. IsLeastOf-lesser first n (least_of loads routers) (IsFree-passes first (omega arith) pass) later)
      (λ fail. IsLeastOf-passed first n (least_of loads routers) (λ free. true≢false (sym (passes-IsFree first free) ∙ fail)) later)

-- ---- the plan

module _ (rooms : List ℕ) (from : ℕ) where
  one_more_turn : (loads : List ℕ) (count : ℕ) (targets : TargetList) (least : Option ℕ) → IsLeastOf loads rooms from 0 (length loads) least
      → Plan rooms from (loads_with least loads) count targets
      → Plan rooms from loads (suc count) (option_map {U = RouterId} (λ r. record { 0 = r }) least ∷ targets)
  one_more_turn loads count targets None none rest = NotGiven (λ q free. none q (omega arith) (omega (arith, free.in_range)) free) rest
  one_more_turn loads count targets (Some r) is rest =
      let least : IsLeastLoaded loads rooms from r =
      record { free = is.free; least = λ q free apart. is.least q (omega arith) (omega (arith, free.in_range)) free apart } in
      Given (record { 0 = r }) least rest

  pub plan_for-plan : (loads : List ℕ) (count : ℕ) → Plan rooms from loads count (plan_for rooms from loads count)
  plan_for-plan loads zero = Done
  plan_for-plan loads (suc count) =
      let next = next_router rooms from loads in
      let rest = plan_for-plan (loads_with next loads) count in
      one_more_turn loads count _ next (IsLeastOf-range loads rooms from 0 (length loads) (omega arith)) rest
