-- Prefixes among others in rising order.
use Rattle.std.proofs.Common.{◌≡◌, ℕ, ◌+◌, ◌<◌, ◌≤◌, ◌⊎◌, Bool, true, false, cond, ◌||◌, List, [], ◌∷◌}
use Rattle.std.proofs.Common.{length, get_or, Result, Ok, Err, inl, inr, refl, sym, ap, ◌∙◌, arith}
use Rattle.std.specs.Prelude.{is_ok}
use Rattle.std.specs.declared.cmp.Ordering.{Ordering}
use Rattle.std.specs.declared.cmp.Ordering.TheVariants.{Less, Equal, Greater}
use Rattle.std.specs.Cmp.{eq_by_cmp_equiv}
use Rattle.std.specs.Ordering.{eq_by_cmp, is_lt, ordering_reverse}
use Rattle.std.specs.List.{list_any, dedup, dedup_from}
use Rattle.std.specs.List.Sorted.{IsStrictlySortedBy, IsSorted, IsSearchInRange, IsBinarySearchResult, IsPartitionPoint}
use Rattle.std.proofs.lemmas.Bool.{false≢true, cases_lt}
use Rattle.std.proofs.lemmas.List.Folds.{list_any_at, list_any_none}
use Rattle.std.proofs.lemmas.List.Sorted.{searchable_from_sorted}
use Rattle.std.proofs.lemmas.Map.Keys.{Less-from_sorted}
use Rattle.bgp_types.specs.Prefixes.{PrefixValue, same_prefix}
use Rattle.bgp_types.specs.Tables.{prefix_cmp}
use Rattle.bgp_types.proofs.OnceLaws.{same_itself, is_same}
use Rattle.bgp_types.proofs.TableLaws.{prefix_total, exact_prefixes, tied}

-- the two tests for the same prefix
pub one_test : (p q : PrefixValue) → eq_by_cmp prefix_cmp p q ≡ same_prefix p q
one_test p q = elim (same_prefix p q) as (λ b. same_prefix p q ≡ b → eq_by_cmp prefix_cmp p q ≡ b) [
  | true ↦ λ e. ap (eq_by_cmp prefix_cmp p) (sym (is_same p q e)) ∙ (eq_by_cmp_equiv prefix_total).refl p
  | false ↦ λ e. elim (eq_by_cmp prefix_cmp p q) as (λ b. eq_by_cmp prefix_cmp p q ≡ b → eq_by_cmp prefix_cmp p q ≡ false) [
    | true ↦ λ f. absurd (false≢true (sym e ∙ (ap (same_prefix p) (sym (tied p q f)) ∙ same_itself p)))
    | false ↦ λ f. f
  ] refl
] refl

-- ---- without repeats

twice : (a b : Bool) → (a || b) ≡ (a || (a || b))
twice true b = refl
twice false b = refl

module _ {A : Type 0} (same : A → A → Bool) (tells : (x y : A) → same x y ≡ true → x ≡ y) (test : A → Bool) where
  any_from : (k : A) (xs : List A) → list_any test (dedup_from same k xs) ≡ (test k || list_any test xs)
  any_from k [] = refl
  any_from k (x ∷ xs) = elim (same x k)
      as (λ b. same x k ≡ b → list_any test (cond b (dedup_from same k xs) (k ∷ dedup_from same x xs)) ≡ (test k || (test x || list_any test xs))) [
        | true ↦ λ e. any_from k xs ∙ (twice (test k) (list_any test xs) ∙ ap (λ (y : A). test k || (test y || list_any test xs)) (sym (tells x k e)))
        | false ↦ λ e. ap (λ (b : Bool). test k || b) (any_from x xs)
      ] refl

  -- what stands in a list stands there without repeats
  pub any_once : (xs : List A) → list_any test (dedup same xs) ≡ list_any test xs
  any_once [] = refl
  any_once (x ∷ xs) = any_from x xs

pub none_rise : IsStrictlySortedBy prefix_cmp []
unfolding IsStrictlySortedBy
none_rise = tt

-- ---- a search by halves

flipped : (p q : PrefixValue) → prefix_cmp p q ≡ Less → is_lt (prefix_cmp q p) ≡ false
flipped p q e = ap is_lt (prefix_total.antisymm q p ∙ ap ordering_reverse e)

sorted : (ps : List PrefixValue) → IsStrictlySortedBy prefix_cmp ps → IsSorted prefix_cmp ps
sorted ps rise k d low high = flipped (get_or ps k d) (get_or ps (k + 1) d) (Less-from_sorted prefix_cmp ps k (k + 1) d rise (omega arith) high)

-- prefixes that don't tie are two
apart : (p q : PrefixValue) (o : Ordering) → prefix_cmp q p ≡ o → (o ≡ Equal → ⊥) → same_prefix p q ≡ false
apart p q o e n = elim (same_prefix p q) as (λ b. same_prefix p q ≡ b → same_prefix p q ≡ false) [
  | true ↦ λ s. absurd (n (sym e ∙ (ap (prefix_cmp q) (is_same p q s) ∙ equal q)))
  | false ↦ λ s. s
] refl where
  equal : (q : PrefixValue) → prefix_cmp q q ≡ Equal
  equal q = elim (prefix_cmp q q) as (λ o. prefix_cmp q q ≡ o → eq_by_cmp prefix_cmp q q ≡ true → prefix_cmp q q ≡ Equal) [
    | Less ↦ λ f t. absurd cc
    | Equal ↦ λ f t. f
    | Greater ↦ λ f t. absurd cc
  ] refl ((eq_by_cmp_equiv prefix_total).refl q)

-- a search by halves tells whether a prefix is there
pub searched : (ps : List PrefixValue) (p : PrefixValue) (r : Result ℕ ℕ) → IsStrictlySortedBy prefix_cmp ps → IsSearchInRange r (length ps)
    → IsBinarySearchResult (λ q. prefix_cmp q p) ps r → is_ok r ≡ list_any (same_prefix p) ps
searched ps p (Ok at) rise in_range here = sym (list_any_at (same_prefix p) ps at p in_range (ap (same_prefix p) (exact_prefixes _ _ (here p)) ∙ same_itself p))
searched ps p (Err at) rise in_range parted =
    let parts = parted (searchable_from_sorted prefix_total (λ q. q) ps p (sorted ps rise)) in
    sym (list_any_none (same_prefix p) ps (λ k d low. by_side k d low (cases_lt k at) parts)) where
      by_side : (k : ℕ) (d : PrefixValue) → k < length ps → (k < at) ⊎ (at ≤ k)
          → IsPartitionPoint (λ q. prefix_cmp q p ≡ Less) (λ q. prefix_cmp q p ≡ Greater) ps at → same_prefix p (get_or ps k d) ≡ false
      by_side k d low (inl before) parts = apart p (get_or ps k d) Less (parts.0 k d (omega arith) before) (λ e. cc)
      by_side k d low (inr after) parts = apart p (get_or ps k d) Greater (parts.1 k d after low) (λ e. cc)
