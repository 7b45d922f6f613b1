-- Prefixes of a kind that are listed in ascending order: the first, and the rest of them.
use Rattle.std.proofs.Common.{◌≡◌, ◌≢◌, ℕ, zero, suc, ◌+◌, Bool, true, false, ◌||◌, List, [], ◌∷◌, ◌++◌, append_assoc, length, take, drop}
use Rattle.std.proofs.Common.{Option, Some, None, is_some, ◌⊎◌, inl, inr, refl, sym, ap, ◌∙◌, subst, arith}
use Rattle.std.specs.Prelude.{All, reverse}
use Rattle.std.specs.FinMap as map
use Rattle.std.specs.List.{list_any}
use Rattle.std.specs.List.Sorted.{IsStrictlySortedBy}
use Rattle.std.specs.Option.{unwrap_or}
use Rattle.std.specs.Ordering.{is_lt, ordering_reverse}
use Rattle.std.specs.declared.cmp.Ordering.{Ordering}
use Rattle.std.specs.declared.cmp.Ordering.TheVariants.{Less, Equal, Greater}
use Rattle.std.proofs.lemmas.Bool.{false≢true}
use Rattle.std.proofs.lemmas.List.{length-drop, length-reverse, reverse-append, take-append-drop, take_all}
use Rattle.std.proofs.lemmas.List.Elements.{All-nil, All-cons, All-head, All-weaker, All-from_recursion}
use Rattle.std.proofs.lemmas.List.Folds.{list_any-append}
use Rattle.std.proofs.lemmas.Map.Keys.{sorted_head, sorted_tail}
use Rattle.bgp_types.specs.Prefixes.{PrefixValue, same_prefix}
use Rattle.bgp_types.specs.Tables.{prefix_cmp, first_above}
use Rattle.bgp_types.proofs.TableLaws.{prefix_total, exact_prefixes}
use Rattle.session_value.specs.Sets.{Lists}
use Rattle.update_plan.specs.Plans.{Without}
use Rattle.update_plan.proofs.Keys.{first_keys_rise, keys_any}
use Rattle.update_plan.proofs.Listed.{back_has, below_not_above, is_same, member_has, neither, not_below_itself, rising_apart, same_itself}
use Rattle.update_plan.proofs.Plans.{Kind}
use Rattle.router_tables.proofs.EnterSteps.{same_or_not}

pub one_or_another : (x y : PrefixValue) → (y ≡ x) ⊎ (y ≢ x)
one_or_another x y = elim (same_or_not x y) [
  | inl e ↦ inl e
  | inr not ↦ inr (λ e. false≢true (sym not ∙ (ap (λ (z : PrefixValue). same_prefix z x) e ∙ same_itself x)))
]

-- ---- order

less : (o : Ordering) → is_lt o ≡ true → o ≡ Less
less Less e = refl
less Equal e = absurd (false≢true e)
less Greater e = absurd (false≢true e)

-- what isn't below something that isn't below another isn't below that either
pub not_below_through : (x y z : PrefixValue) → is_lt (prefix_cmp x y) ≡ false → is_lt (prefix_cmp y z) ≡ false → is_lt (prefix_cmp x z) ≡ false
not_below_through x y z e f = elim (is_lt (prefix_cmp x z)) as (λ b. is_lt (prefix_cmp x z) ≡ b → is_lt (prefix_cmp x z) ≡ false) [
  | true ↦ λ g. absurd (by_order g (prefix_cmp x y) refl)
  | false ↦ λ g. g
] refl
  where
    by_order : is_lt (prefix_cmp x z) ≡ true → (o : Ordering) → prefix_cmp x y ≡ o → ⊥
    by_order g Less is = false≢true (sym e ∙ ap is_lt is)
    by_order g Equal is = false≢true (sym f ∙ (ap (λ (w : PrefixValue). is_lt (prefix_cmp w z)) (sym (exact_prefixes x y is)) ∙ g))
    by_order g Greater is = false≢true (sym f
        ∙ ap is_lt (prefix_total.trans y x z (prefix_total.antisymm y x ∙ ap ordering_reverse is) (less (prefix_cmp x z) g)))

-- none of a rising list is below its first
pub none_below_head : (first : PrefixValue) (later : List PrefixValue) → IsStrictlySortedBy prefix_cmp (first ∷ later) → (x : PrefixValue)
    → list_any (same_prefix x) (first ∷ later) ≡ true → is_lt (prefix_cmp x first) ≡ false
none_below_head first later rising x e =
    elim (same_prefix x first) as (λ b. same_prefix x first ≡ b → (b || list_any (same_prefix x) later) ≡ true → is_lt (prefix_cmp x first) ≡ false) [
      | true ↦ λ same there. subst (λ (y : PrefixValue). is_lt (prefix_cmp y first) ≡ false) (sym (is_same x first same)) (not_below_itself first)
      | false ↦ λ same there. below_not_above first x (member_has (λ (y : PrefixValue). prefix_cmp first y ≡ Less) x later
          (All-from_recursion (λ (y : PrefixValue). prefix_cmp first y ≡ Less) later (sorted_head prefix_cmp first later rising)) there)
    ] refl e

-- ---- the least prefix of a table

none_below_first : (ks : List PrefixValue) (p : PrefixValue) → first_above None ks ≡ Some p → IsStrictlySortedBy prefix_cmp ks → (q : PrefixValue)
    → list_any (same_prefix q) ks ≡ true → is_lt (prefix_cmp q p) ≡ false
none_below_first [] p e rising q there = absurd (false≢true there)
none_below_first (k ∷ ks) p e rising q there =
    let same : k ≡ p = ap (λ (o : Option PrefixValue). unwrap_or o k) e in
    subst (λ (z : PrefixValue). is_lt (prefix_cmp q z) ≡ false) same (none_below_head k ks rising q there)

pub none_below_least : {A : Type 0} (t : map.FinMap prefix_cmp A) (p : PrefixValue) → first_above None (map.keys t) ≡ Some p → (q : PrefixValue)
    → is_some (map.get t q) ≡ true → is_lt (prefix_cmp q p) ≡ false
none_below_least t p e q there = none_below_first (map.keys t) p e
    (subst (IsStrictlySortedBy prefix_cmp) (take_all (length (map.keys t)) (map.keys t) (omega arith)) (first_keys_rise t (length (map.keys t))))
    q (keys_any t q ∙ there)

-- ---- the rest of a list

back_rises : (xs ys : List PrefixValue) → IsStrictlySortedBy prefix_cmp (xs ++ ys) → IsStrictlySortedBy prefix_cmp ys
back_rises [] ys rising = rising
back_rises (x ∷ xs) ys rising = back_rises xs ys (sorted_tail prefix_cmp x (xs ++ ys) rising)

back_apart : (P : Kind) (xs ys : List PrefixValue) → IsStrictlySortedBy prefix_cmp (xs ++ ys) → All P (xs ++ ys)
    → All (λ x. P x × (list_any (same_prefix x) xs ≡ false)) ys
back_apart P xs [] rising h = All-nil (λ x. P x × (list_any (same_prefix x) xs ≡ false))
back_apart P xs (y ∷ ys) rising h = All-cons (λ x. P x × (list_any (same_prefix x) xs ≡ false)) y ys
    (All-head P y ys (back_has P xs (y ∷ ys) h), rising_apart xs ys y rising)
    (All-weaker (λ x. P x × (list_any (same_prefix x) (xs ++ y ∷ []) ≡ false)) (λ x. P x × (list_any (same_prefix x) xs ≡ false))
    (λ x g. (
      g.0,
      (neither (list_any (same_prefix x) xs) (list_any (same_prefix x) (y ∷ []))
          (sym (list_any-append (same_prefix x) xs (y ∷ [])) ∙ g.1)).0,
    )) ys
    (back_apart P (xs ++ y ∷ []) ys (subst (IsStrictlySortedBy prefix_cmp) (sym (append_assoc xs (y ∷ []) ys)) rising)
    (subst (All P) (sym (append_assoc xs (y ∷ []) ys)) h)))

-- Those of a kind that aren't among the first are the rest.
pub rest_lists : (P : Kind) (xs ys : List PrefixValue) → Lists P (xs ++ ys) → Lists (Without P xs) ys
rest_lists P xs ys l = record {
  rising = back_rises xs ys l.rising;
  each = back_apart P xs ys l.rising l.each;
  all = λ x h. behind x (list_any (same_prefix x) xs) (list_any (same_prefix x) ys) h.1
      (sym (list_any-append (same_prefix x) xs ys) ∙ l.all x h.0);
}
  where
    behind : (x : PrefixValue) (a b : Bool) → a ≡ false → (a || b) ≡ true → b ≡ true
    behind x true b none e = absurd (false≢true (sym none))
    behind x false b none e = e

-- ---- the first and the rest of a list that is kept from its end on

take_front : (xs ys : List PrefixValue) (n : ℕ) → length xs ≡ n → take n (xs ++ ys) ≡ xs
take_front [] ys zero e = refl
take_front [] ys (suc n) e = absurd (omega (arith, e))
take_front (x ∷ xs) ys zero e = absurd (omega (arith, e))
take_front (x ∷ xs) ys (suc n) e = ap (λ (l : List PrefixValue). x ∷ l) (take_front xs ys n (omega (arith, e)))

pub drop_front : (xs ys : List PrefixValue) (n : ℕ) → length xs ≡ n → drop n (xs ++ ys) ≡ ys
drop_front [] ys zero e = refl
drop_front [] ys (suc n) e = absurd (omega (arith, e))
drop_front (x ∷ xs) ys zero e = absurd (omega (arith, e))
drop_front (x ∷ xs) ys (suc n) e = drop_front xs ys n (omega (arith, e))

module _ (xs : List PrefixValue) (count later : ℕ) (long : later + count ≡ length xs) where
  parts_are : reverse xs ≡ reverse (drop later xs) ++ reverse (take later xs)
  parts_are = ap reverse (sym (take-append-drop later xs)) ∙ reverse-append (take later xs) (drop later xs)

  size_is : length (reverse (drop later xs)) ≡ count
  size_is =
      let one = length-reverse (drop later xs) in
      let other = length-drop later xs in
      omega (arith, one, other, long)

  pub last_are : reverse (drop later xs) ≡ take count (reverse xs)
  last_are = sym (ap (take count) parts_are ∙ take_front (reverse (drop later xs)) (reverse (take later xs)) count size_is)

  pub rest_are : reverse (take later xs) ≡ drop count (reverse xs)
  rest_are = sym (ap (drop count) parts_are ∙ drop_front (reverse (drop later xs)) (reverse (take later xs)) count size_is)
