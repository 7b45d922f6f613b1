-- The prefixes of one kind in rising order are one list, and the least of them is one.
use Rattle.std.proofs.Common.{◌≡◌, Bool, true, false, List, refl, sym, ap, ◌∙◌}
use Rattle.std.specs.Cmp.{both_ways}
use Rattle.std.specs.BTreeSet.{BTreeSet, contains}
use Rattle.std.specs.Ordering.{is_lt, ordering_reverse}
use Rattle.std.specs.declared.cmp.Ordering.TheVariants.{Less, Equal, Greater}
use Rattle.std.proofs.lemmas.Bool.{false≢true}
use Rattle.std.proofs.lemmas.List.Elements.{All-contains}
use Rattle.std.proofs.lemmas.Map.Lookups.{btree_set_from_contains}
use Rattle.std.proofs.lemmas.Map.Views.{Contains-from_any, btree_set_contains_iff}
use Rattle.bgp_types.specs.Prefixes.{PrefixValue}
use Rattle.bgp_types.specs.Tables.{prefix_cmp}
use Rattle.bgp_types.proofs.OnceLaws.{is_same}
use Rattle.bgp_types.proofs.TableLaws.{prefix_total, exact_prefixes}
use Rattle.session_value.specs.Sets.{Lists}

pub one_least : (p q : PrefixValue) → is_lt (prefix_cmp p q) ≡ false → is_lt (prefix_cmp q p) ≡ false → p ≡ q
one_least p q e f = elim (prefix_cmp p q) as (λ o. prefix_cmp p q ≡ o → p ≡ q) [
  | Less ↦ λ is. absurd (false≢true (sym e ∙ ap is_lt is))
  | Equal ↦ λ is. exact_prefixes p q is
  | Greater ↦ λ is. absurd (false≢true (sym f ∙ ap is_lt (prefix_total.antisymm q p ∙ ap ordering_reverse is)))
] refl

abbrev set_of : List PrefixValue → BTreeSet PrefixValue
set_of xs = record { keys = xs }

abbrev in_list : List PrefixValue → PrefixValue → Bool
in_list xs p = contains prefix_cmp (set_of xs) p

module _ (Is : PrefixValue → Type 0) where
  also : (xs ys : List PrefixValue) → Lists Is xs → Lists Is ys → (p : PrefixValue) → in_list xs p ≡ true → in_list ys p ≡ true
  also xs ys a b p there =
      let is : Is p = All-contains Is xs p a.each ((btree_set_contains_iff prefix_total exact_prefixes (set_of xs) p).0 there) in
      (btree_set_contains_iff prefix_total exact_prefixes (set_of ys) p).1 (Contains-from_any is_same p ys (b.all p is))

  pub one_list : (xs ys : List PrefixValue) → Lists Is xs → Lists Is ys → xs ≡ ys
  one_list xs ys a b =
      btree_set_from_contains prefix_total (set_of xs) (set_of ys) a.rising b.rising
      (λ p. both_ways (in_list xs p) (in_list ys p) (also xs ys a b p) (also ys xs b a p)) exact_prefixes
