-- Two lists of entries in order that answer alike are one.
use Rattle.std.proofs.Common.{◌≡◌, Bool, true, false, cond, List, [], ◌∷◌, Some, refl, sym, ap, subst, ◌∙◌}
use Rattle.std.specs.Prelude.{T, ◌&&◌}
use Rattle.std.specs.BTreeMap.{is_at}
use Rattle.std.specs.Cmp.{IsTotalOrder}
use Rattle.std.specs.FinMap.Entries.{find, below_all, is_sorted, same_entries}
use Rattle.std.specs.List.{AllByRecursion}
use Rattle.std.specs.List.Sorted.{IsStrictlySortedBy}
use Rattle.std.specs.Map.{keys_of, lookup}
use Rattle.std.specs.Ordering.{is_lt, is_eq}
use Rattle.std.specs.declared.cmp.Ordering.{Ordering}
use Rattle.std.specs.declared.cmp.Ordering.TheVariants.{Less}
use Rattle.std.proofs.lemmas.Map.Lookups.{CmpEqualImpliesEq}

two : (a b : Bool) → T a → T b → T (a && b)
two true b g h = h
two false b g h = absurd g

module _ {K X : Type 0} (R : K → K → Ordering) where
  below : (k : K) (es : List (K × X)) → AllByRecursion (λ y. R k y ≡ Less) (keys_of es) → T (below_all R k es)
  below k [] h = tt
  below k (e ∷ es) h = two (is_lt (R k e.0)) (below_all R k es) (subst (λ (o : Ordering). T (is_lt o)) (sym h.0) tt) (below k es h.1)

  sorted : (es : List (K × X)) → IsStrictlySortedBy R (keys_of es) → T (is_sorted R es)
  unfolding IsStrictlySortedBy
  sorted [] h = tt
  sorted (e ∷ es) h = two (below_all R e.0 es) (is_sorted R es) (below e.0 es h.0) (sorted es h.1)

  looked_up : (q : K) (es : List (K × X)) → find R q es ≡ lookup (is_at (R q)) es
  looked_up q [] = refl
  looked_up q (e ∷ es) = ap (cond (is_eq (R q e.0)) (Some e.1)) (looked_up q es)

  pub alike_is_same : IsTotalOrder R → CmpEqualImpliesEq R → (es fs : List (K × X)) → IsStrictlySortedBy R (keys_of es)
      → IsStrictlySortedBy R (keys_of fs) → ((q : K) → lookup (is_at (R q)) es ≡ lookup (is_at (R q)) fs) → es ≡ fs
  alike_is_same o exact es fs s t is = same_entries R o exact es fs (sorted es s) (sorted fs t) (λ q. looked_up q es ∙ (is q ∙ sym (looked_up q fs)))
