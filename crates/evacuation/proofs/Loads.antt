-- What one more peering at a router changes, in its load and in how often it is given one.
use Rattle.std.proofs.Common.{◌≡◌, ◌≢◌, ℕ, ◌+◌, ◌<◌, ◌⊎◌, inl, inr, Bool, cond, eq-eqb, List, ◌∷◌, length, Option, Some, None, is_some, sym, ap, ◌∙◌, arith}
use Rattle.std.specs.Prelude.{slice_index}
use Rattle.std.proofs.lemmas.Bool.{cases_eq, ne_eqb}
use Rattle.std.proofs.lemmas.List.{get_or-set_same, get_or-set_other, length-set}
use Rattle.std.proofs.lemmas.List.Sums.{sum_by-cons}
use Rattle.graft_edge.specs.declared.ids.RouterId.{RouterId}
use Rattle.evacuation.specs.Plans.{TargetList, one_more_load, is_router, times_given, number_given, load_after}

pub one_more_load-same : (loads : List ℕ) (r : ℕ) → r < length loads → slice_index (one_more_load loads r) r ≡ slice_index loads r + 1
one_more_load-same loads r there = get_or-set_same loads r _ 0 there

pub one_more_load-other : (loads : List ℕ) (r q : ℕ) → q ≢ r → slice_index (one_more_load loads r) q ≡ slice_index loads q
one_more_load-other loads r q other = get_or-set_other loads r q _ 0 other

pub length-one_more : (loads : List ℕ) (r : ℕ) → length (one_more_load loads r) ≡ length loads
length-one_more loads r = length-set loads r _

pub times_given-none : (r : ℕ) (targets : TargetList) → times_given r (None ∷ targets) ≡ times_given r targets
times_given-none r targets = omega (arith, sum_by-cons (λ o. cond (is_router r o) 1 0) None targets)

pub times_given-same : (r : ℕ) (target : RouterId) (targets : TargetList) → r ≡ target.0 → times_given r (Some target ∷ targets) ≡ times_given r targets + 1
times_given-same r target targets same =
    let one : ◌≡◌ {A = ℕ} (cond (is_router r (Some target)) 1 0) 1 = ap {B = ℕ} (λ (b : Bool). cond b 1 0) (eq-eqb target.0 r (sym same)) in
    omega (arith, sum_by-cons (λ o. cond (is_router r o) 1 0) (Some target) targets)

pub times_given-other : (r : ℕ) (target : RouterId) (targets : TargetList) → r ≢ target.0 → times_given r (Some target ∷ targets) ≡ times_given r targets
times_given-other r target targets other =
    let none : ◌≡◌ {A = ℕ} (cond (is_router r (Some target)) 1 0) 0 = ap {B = ℕ} (λ (b : Bool). cond b 1 0) (ne_eqb target.0 r (λ e. other (sym e))) in
    omega (arith, sum_by-cons (λ o. cond (is_router r o) 1 0) (Some target) targets)

pub number_given-none : (targets : TargetList) → number_given (None ∷ targets) ≡ number_given targets
number_given-none targets = omega (arith, sum_by-cons (λ (o : Option RouterId). cond (is_some o) 1 0) None targets)

pub number_given-some : (target : RouterId) (targets : TargetList) → number_given (Some target ∷ targets) ≡ number_given targets + 1
number_given-some target targets = omega (arith, sum_by-cons (λ o. cond (is_some o) 1 0) (Some target) targets)

-- The load with what a router is given is the same, whether the first of it counts as given or as a load from before.
pub load_after-one_more : (loads : List ℕ) (target : RouterId) (targets : TargetList) → target.0 < length loads → (r : ℕ)
    → load_after (one_more_load loads target.0) targets r ≡ load_after loads (Some target ∷ targets) r
load_after-one_more loads target targets there r = elim (cases_eq r target.0) [
  | inl same ↦
      let load : slice_index (one_more_load loads target.0) r ≡ slice_index loads r + 1 =
      ap (slice_index (one_more_load loads target.0)) same ∙ one_more_load-same loads target.0 there ∙ ap (λ n. slice_index loads n + 1) (sym same) in
      omega (arith, load, times_given-same r target targets same)
  | inr other ↦ omega (arith, one_more_load-other loads target.0 r other, times_given-other r target targets other)
]

-- A router that is given the first peering, or one of the others.
pub first_or_later : (r : ℕ) (target : RouterId) (targets : TargetList) → 0 < times_given r (Some target ∷ targets)
    → ((r ≡ target.0) × (times_given r targets ≡ 0)) ⊎ (0 < times_given r targets)
first_or_later r target targets some = elim (cases_eq (times_given r targets) 0) [
  | inr some ↦ inr (omega arith)
  | inl none ↦ elim (cases_eq r target.0) [
    | inl same ↦ inl (same, none)
    | inr other ↦ absurd (omega (arith, times_given-other r target targets other))
  ]
]
