-- The next prefix in a tree.
use Rattle.std.proofs.Common.{◌≡◌, ◌<◌, ◌≤◌, true, false, cond, List, [], ◌∷◌, ◌++◌, map, Option, Some, None, refl, ap, ◌∙◌, arith}
use Rattle.std.specs.Prelude.{is_some}
use Rattle.std.specs.declared.cmp.Ordering.TheVariants.{Less}
use Rattle.std.specs.Ordering.{is_lt}
use Rattle.std.specs.Option.{option_or}
use Rattle.std.specs.List.{AllByRecursion}
use Rattle.bgp_types.specs.Prefixes.{PrefixValue}
use Rattle.bgp_types.specs.Tables.{prefix_cmp, is_above, first_above}
use Rattle.bgp_types.proofs.TableLaws.{prefix_total, AllAbove, next_right, below_not_above}
use Rattle.prefix_trie.specs.Halves.{middle}
use Rattle.prefix_trie.specs.Nodes.{own, IsNode}
use Rattle.prefix_trie.proofs.Nodes.{every, every_both, branches_above, ones_above, zeros_below}

abbrev pub keys : {V : Type 0} → List (PrefixValue × V) → List PrefixValue
keys es = map (λ e. e.0) es

module _ {V : Type 0} where
  -- of two parts
  pub first_of_both : (a : Option PrefixValue) (xs ys : List (PrefixValue × V))
      → first_above a (keys (xs ++ ys)) ≡ option_or (first_above a (keys xs)) (first_above a (keys ys))
  first_of_both a [] ys = refl
  first_of_both a (x ∷ xs) ys =
      elim (is_above a x.0)
      as (λ b. cond b (Some x.0) (first_above a (keys (xs ++ ys))) ≡ option_or (cond b (Some x.0) (first_above a (keys xs))) (first_above a (keys ys))) [
        | true ↦ refl
        | false ↦ first_of_both a xs ys
      ]

  -- where all are above p
  pub first_of_above : (p : PrefixValue) (es : List (PrefixValue × V)) → AllAbove prefix_cmp p es → first_above (Some p) (keys es) ≡ first_above None (keys es)
  first_of_above p [] a = refl
  first_of_above p (e ∷ es) a = rw a.0 refl

  -- of a node without a value
  pub first_below : (p : PrefixValue) (o : Option V) (zs os : List (PrefixValue × V)) → is_some o ≡ false
      → first_above None (keys (own p o ++ (zs ++ os))) ≡ option_or (first_above None (keys zs)) (first_above None (keys os))
  first_below p None zs os e = first_of_both None zs os
  first_below p (Some v) zs os e = absurd cc

  module _ (p : PrefixValue) (o : Option V) (zs os : List (PrefixValue × V)) (node : IsNode p zs os) (q : PrefixValue) where
    pub next_before : prefix_cmp q p ≡ Less → first_above (Some q) (keys (own p o ++ (zs ++ os))) ≡ first_above None (keys (own p o ++ (zs ++ os)))
    next_before less = first_of_above q (own p o ++ (zs ++ os)) (every_both (λ k. prefix_cmp q k ≡ Less) (own p o) (zs ++ os) (itself o)
        (every (λ k. prefix_cmp p k ≡ Less) (λ k. prefix_cmp q k ≡ Less) (zs ++ os)
        (λ k later. prefix_total.trans q p k less later) (branches_above p o zs os node p (omega arith) (omega arith))))
      where
        itself : (x : Option V) → AllAbove prefix_cmp q (own p x)
        itself None = tt
        itself (Some v) = (less, tt)

    passed : is_lt (prefix_cmp q p) ≡ false → (x : Option V) → AllByRecursion (λ e. is_above (Some q) e.0 ≡ false) (own p x)
    passed h None = tt
    passed h (Some v) = (h, tt)

    pub next_early : is_lt (prefix_cmp q p) ≡ false → q.address < middle p
        → first_above (Some q) (keys (own p o ++ (zs ++ os))) ≡ option_or (first_above (Some q) (keys zs)) (first_above None (keys os))
    next_early h early =
        next_right q (own p o) (zs ++ os) (passed h o)
        ∙ (first_of_both (Some q) zs os
        ∙ ap (option_or (first_above (Some q) (keys zs))) (first_of_above q os (ones_above p o zs os node q early)))

    pub next_late : is_lt (prefix_cmp q p) ≡ false → middle p ≤ q.address → first_above (Some q) (keys (own p o ++ (zs ++ os))) ≡ first_above (Some q) (keys os)
    next_late h late =
        next_right q (own p o) (zs ++ os) (passed h o)
        ∙ next_right q zs os (below_not_above q zs (zeros_below p o zs os node q late))
