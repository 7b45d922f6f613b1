-- The search for the least loaded router, and the turns in which peerings are given.
use Rattle.std.proofs.Common.{◌≡◌, ◌≢◌, ℕ, suc, ◌+◌, ◌<◌, inl, inr, List, [], ◌∷◌, ◌++◌, length, get_or, set, Option, Some, None}
use Rattle.std.proofs.Common.{MatchOption, refl, sym, ap, ◌∙◌, subst, append_assoc, add-zero, zero-add, arith}
use Rattle.std.specs.Prelude.{slice_index}
use Rattle.std.proofs.lemmas.List.{append-nil, get_or_read}
use Rattle.std.proofs.lemmas.Bool.{cases_lt}
use Rattle.graft_edge.specs.declared.ids.RouterId.{RouterId}
use Rattle.evacuation.specs.Plans.{TargetList, IsLessLoaded, IsFree, IsLeastLoaded, IsFull, Plan, Done, Given, NotGiven, one_more_load}
use Rattle.evacuation.proofs.Loads.{length-one_more}

-- ---- the least loaded of the routers below a number

-- This one, of the routers below a number.
pub record IsLeastBelow (loads rooms : List ℕ) (from n r : ℕ) : Type 0 where
  pub below : r < n
  pub free : IsFree loads rooms from r
  pub least : (q : ℕ) → q < n → IsFree loads rooms from q → q ≢ r → IsLessLoaded loads r q

-- the least loaded router below a number, or none
abbrev pub IsLeastSoFar : List ℕ → List ℕ → ℕ → ℕ → Option ℕ → Type 0
IsLeastSoFar loads rooms from n least = MatchOption least ((q : ℕ) → q < n → ¬ IsFree loads rooms from q) (IsLeastBelow loads rooms from n)

module _ (loads rooms : List ℕ) (from n : ℕ) where
  below_next : (q : ℕ) → q < n + 1 → q ≢ n → q < n
  below_next q below other = elim (cases_lt q n) [
    | inl less ↦ less
    | inr more ↦ absurd (other (omega arith))
  ]

-- ---- the turns

-- Whatever plan follows, with the loads as they are now, is the rest of a plan from the first loads on.
pub record Planned (rooms : List ℕ) (from : ℕ) (first now : List ℕ) (turns : ℕ) (targets : TargetList) : Type 0 where
  pub same_length : length now ≡ length first
  pub rest : (count : ℕ) (later : TargetList) → Plan rooms from now count later → Plan rooms from first (turns + count) (targets ++ later)

-- the loads with one more at a router, as they are written
pub one_more_load-written : (loads : List ℕ) (r index load : ℕ) → index ≡ r → r < length loads → load ≡ get_or loads index load
    → set loads index (load + 1) ≡ one_more_load loads r
one_more_load-written loads r index load same there read =
    let is : load ≡ slice_index loads index = get_or_read loads index load (omega arith) read 0 in
    ap (λ n. set loads index (n + 1)) is ∙ ap (one_more_load loads) same

module _ (rooms : List ℕ) (from : ℕ) (first now : List ℕ) (turns : ℕ) (targets : TargetList) where
  one_turn : Planned rooms from first now turns targets → (count : ℕ) (target : Option RouterId) (later : TargetList)
      → Plan rooms from now (suc count) (target ∷ later)
      → Plan rooms from first (turns + 1 + count) ((targets ++ target ∷ []) ++ later)
  one_turn planned count target later plan =
      let added : Plan rooms from first (turns + suc count) (targets ++ target ∷ later) = planned.rest (suc count) (target ∷ later) plan in
      let counted : turns + suc count ≡ turns + 1 + count = omega arith in
      rw (← append_assoc targets (target ∷ []) later, counted) at added

  pub Planned-given : Planned rooms from first now turns targets → (r : RouterId) → IsLeastLoaded now rooms from r.0 → (next : List ℕ) (more : TargetList)
      → next ≡ one_more_load now r.0 → more ≡ targets ++ Some r ∷ [] → Planned rooms from first next (turns + 1) more
  Planned-given planned r least next more next_is more_is =
      let turn : Planned rooms from first (one_more_load now r.0) (turns + 1) (targets ++ Some r ∷ []) = record {
        same_length = omega (arith, length-one_more now r.0, planned.same_length);
        rest = λ count later plan. one_turn planned count (Some r) later (Given r least plan);
      } in
      rw (← next_is, ← more_is) at turn

  pub Planned-not_given : Planned rooms from first now turns targets → IsFull now rooms from → (next : List ℕ) (more : TargetList)
      → next ≡ now → more ≡ targets ++ None ∷ [] → Planned rooms from first next (turns + 1) more
  Planned-not_given planned full next more next_is more_is =
      let turn : Planned rooms from first now (turns + 1) (targets ++ None ∷ []) = record {
        same_length = planned.same_length;
        rest = λ count later plan. one_turn planned count None later (NotGiven full plan);
      } in
      rw (← next_is, ← more_is) at turn

  pub Planned-all : Planned rooms from first now turns targets → Plan rooms from first turns targets
  Planned-all planned = rw (append-nil targets, add-zero) at (planned.rest 0 [] Done)

pub Planned-none : (rooms : List ℕ) (from : ℕ) (first now : List ℕ) (targets : TargetList) → now ≡ first → targets ≡ []
    → Planned rooms from first now 0 targets
Planned-none rooms from first now targets same none =
    let start : Planned rooms from first first 0 [] = record { same_length = refl; rest = λ count later plan. rw (← zero-add count) at plan } in
    subst (λ ls. Planned rooms from first ls 0 targets) (sym same) (rw (← none) at start)
