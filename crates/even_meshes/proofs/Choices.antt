-- The choice between routes that are even in MED: one order decides.
use Rattle.std.proofs.Common.{◌≡◌, ℕ, ◌==◌, nat_lt, Bool, true, false, not, ◌&&◌, List, ◌++◌, None, refl, sym, ap, ◌∙◌, subst, arith}
use Rattle.std.specs.Prelude.{Option, option_map}
use Rattle.std.specs.List.{list_any, AllByRecursion, fold}
use Rattle.std.specs.Cmp.{IsStrictWeakOrder}
use Rattle.std.proofs.lemmas.Bool.Decides.{nat_tests}
use Rattle.std.proofs.lemmas.Grind.{fold-append}
use Rattle.decision_core.specs.Choice.{has_lower_med, keep, first, choice}
use Rattle.decision_core.specs.Search.{in_turn, leads, is_nearer, pick, best_by}
use Rattle.decision_core.proofs.Filters.{IsStrictWeakOrder-in_turn, first-keep}
use Rattle.decision_core.proofs.NineRules.{on, on_order, keep_on, leads_order, is_nearer_order, choice-in_three}
use Rattle.route_policy.specs.declared.best.Best.{Best}
use Rattle.route_policy.specs.Candidates.{Candidate}
use Rattle.even_meshes.proofs.Folds.{IfAny, all_keep, if_map, picks_all, all_imply, filter_whole, none_of}

-- what a candidate names
abbrev pub named : Option Candidate → Option Best
named o = option_map (λ c. c.0) o

abbrev pub better : Candidate → Candidate → Bool
better = on (in_turn leads is_nearer)

better_order : IsStrictWeakOrder better
better_order = on_order (in_turn leads is_nearer) (IsStrictWeakOrder-in_turn leads is_nearer leads_order is_nearer_order)

-- its MED is that of its neighbour AS
abbrev pub IsEvenBy : (ℕ → ℕ) → Candidate → Type 0
IsEvenBy med c = c.1.med ≡ med c.1.neighbour

none_lower : (med : ℕ → ℕ) (a b m n : ℕ) → m ≡ med a → n ≡ med b → ((a == b) && nat_lt m n) ≡ false
none_lower med a b m n h k = grind (arith, nat_tests)

not_true : (b : Bool) → b ≡ false → not b ≡ true
not_true b h = rw h refl

even_keep : (med : ℕ → ℕ) (cs : List Candidate) → AllByRecursion (IsEvenBy med) cs → keep (on has_lower_med) cs ≡ cs
unfolding keep
even_keep med cs h = filter_whole (λ x. not (list_any (λ y. on has_lower_med y x) cs)) cs
    (all_imply (IsEvenBy med) (λ x. not (list_any (λ y. on has_lower_med y x) cs) ≡ true) stays cs h)
  where
    stays : (x : Candidate) → IsEvenBy med x → not (list_any (λ y. on has_lower_med y x) cs) ≡ true
    stays x e = not_true (list_any (λ y. on has_lower_med y x) cs) (none_of (λ y. on has_lower_med y x) cs
        (all_imply (IsEvenBy med) (λ y. on has_lower_med y x ≡ false) (λ y f. none_lower med y.1.neighbour x.1.neighbour y.1.med x.1.med f e) cs h))

pub choice_even : (med : ℕ → ℕ) (cs : List Candidate) → AllByRecursion (IsEvenBy med) cs → choice cs ≡ named (best_by better cs)
choice_even med cs h =
    choice-in_three cs
    ∙ ap (λ rest. named (best_by (on is_nearer) rest)) (even_keep med (keep (on leads) cs) (all_keep (IsEvenBy med) (on leads) cs h))
    ∙ ap named (sym (first-keep (on is_nearer) (on_order is_nearer is_nearer_order) (keep (on leads) cs))
    ∙ ap first (keep_on leads is_nearer leads_order is_nearer_order cs) ∙ first-keep better better_order cs)

-- what holds of all candidates holds of the chosen one
pub choice_all : (P : Best → Type 0) (cs : List Candidate) → AllByRecursion (λ c. P c.0) cs → IfAny P (choice cs)
choice_all P cs h =
    let leading = all_keep (λ (c : Candidate). P c.0) (on leads) cs h in
    let left = all_keep (λ (c : Candidate). P c.0) (on has_lower_med) (keep (on leads) cs) leading in
    subst (IfAny P) (sym (choice-in_three cs))
    (if_map (λ (c : Candidate). c.0) P (best_by (on is_nearer) (keep (on has_lower_med) (keep (on leads) cs)))
    (picks_all (λ (c : Candidate). P c.0) (on is_nearer) None (keep (on has_lower_med) (keep (on leads) cs)) tt left))

-- with more behind them
pub best_by-append : (cs ds : List Candidate) → best_by better (cs ++ ds) ≡ fold (pick better) (best_by better cs) ds
best_by-append cs ds = fold-append (pick better) None cs ds
