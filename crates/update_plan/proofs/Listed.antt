-- Which prefixes stand in a rising list.
use Rattle.std.proofs.Common.{◌≡◌, Bool, true, false, eqb, ◌&&◌, ◌||◌, List, [], ◌∷◌, ◌++◌, refl, sym, ap, ◌∙◌, subst, arith}
use Rattle.std.specs.declared.cmp.Ordering.{Ordering}
use Rattle.std.specs.declared.cmp.Ordering.TheVariants.{Less, Equal, Greater}
use Rattle.std.specs.Ordering.{is_lt}
use Rattle.std.specs.Cmp.{tied_itself}
use Rattle.std.specs.List.{AllByRecursion, All, list_any}
use Rattle.std.specs.List.Sorted.{IsStrictlySortedBy}
use Rattle.std.proofs.lemmas.Bool.{false≢true, eq-eqb, eqb-true}
use Rattle.std.proofs.lemmas.List.Elements.{All-head, All-tail}
use Rattle.std.proofs.lemmas.Map.Keys.{sorted_head, sorted_tail}
use Rattle.bgp_types.specs.Prefixes.{PrefixValue, same_prefix}
use Rattle.bgp_types.specs.Tables.{prefix_cmp}
use Rattle.bgp_types.proofs.TableLaws.{prefix_total}

pub neither : (a b : Bool) → (a || b) ≡ false → (a ≡ false) × (b ≡ false)
neither true b e = absurd (false≢true (sym e))
neither false b e = (refl, e)

pub neither_is : (a b : Bool) → a ≡ false → b ≡ false → (a || b) ≡ false
neither_is true b e f = e
neither_is false b e f = f

both : (a b : Bool) → (a && b) ≡ true → (a ≡ true) × (b ≡ true)
both true b e = (refl, e)
both false b e = absurd (false≢true e)

both_true : (a b : Bool) → a ≡ true → b ≡ true → (a && b) ≡ true
both_true true b e f = f
both_true false b e f = e

pub same_itself : (p : PrefixValue) → same_prefix p p ≡ true
same_itself p = both_true (eqb p.address p.address) (eqb p.len p.len) (eq-eqb p.address p.address refl) (eq-eqb p.len p.len refl)

parts : (p q : PrefixValue) → p.address ≡ q.address → p.len ≡ q.len → p ≡ q
parts p q e f = grind arith

pub is_same : (p q : PrefixValue) → same_prefix p q ≡ true → p ≡ q
is_same p q e =
    let h = both (eqb p.address q.address) (eqb p.len q.len) e in
    parts p q (eqb-true p.address q.address h.0) (eqb-true p.len q.len h.1)

pub not_below_itself : (p : PrefixValue) → is_lt (prefix_cmp p p) ≡ false
not_below_itself p = ap is_lt (tied_itself prefix_total p)

less_apart : (p q : PrefixValue) → prefix_cmp p q ≡ Less → p ≡ q → ⊥
less_apart p q l e = false≢true (sym (not_below_itself q) ∙ (ap (λ (x : PrefixValue). is_lt (prefix_cmp x q)) (sym e) ∙ ap is_lt l))

-- one below another isn't the same
pub below_apart : (p q : PrefixValue) → prefix_cmp p q ≡ Less → same_prefix q p ≡ false
below_apart p q l = elim (same_prefix q p) as (λ b. same_prefix q p ≡ b → same_prefix q p ≡ false) [
  | true ↦ λ e. absurd (less_apart p q l (sym (is_same q p e)))
  | false ↦ λ e. e
] refl

less : (o : Ordering) → is_lt o ≡ true → o ≡ Less
less Less e = refl
less Equal e = absurd (false≢true e)
less Greater e = absurd (false≢true e)

pub below_not_above : (p q : PrefixValue) → prefix_cmp p q ≡ Less → is_lt (prefix_cmp q p) ≡ false
below_not_above p q l = elim (is_lt (prefix_cmp q p)) as (λ b. is_lt (prefix_cmp q p) ≡ b → is_lt (prefix_cmp q p) ≡ false) [
  | true ↦ λ e. absurd (less_apart p p (prefix_total.trans p q p l (less (prefix_cmp q p) e)) refl)
  | false ↦ λ e. e
] refl

-- what lies above all that stand in a list doesn't stand there
pub above_all : (p : PrefixValue) (xs : List PrefixValue) → All (λ x. prefix_cmp x p ≡ Less) xs → list_any (same_prefix p) xs ≡ false
above_all p [] h = refl
above_all p (x ∷ xs) h = neither_is (same_prefix p x) (list_any (same_prefix p) xs)
    (below_apart x p (All-head (λ x. prefix_cmp x p ≡ Less) x xs h)) (above_all p xs (All-tail (λ x. prefix_cmp x p ≡ Less) x xs h))

further : (zs ys : List PrefixValue) (y x : PrefixValue) → AllByRecursion (λ z. prefix_cmp x z ≡ Less) (zs ++ y ∷ ys) → prefix_cmp x y ≡ Less
further [] ys y x h = h.0
further (z ∷ zs) ys y x h = further zs ys y x h.1

-- in a rising list what comes later doesn't stand before it
pub rising_apart : (xs ys : List PrefixValue) (y : PrefixValue) → IsStrictlySortedBy prefix_cmp (xs ++ y ∷ ys) → list_any (same_prefix y) xs ≡ false
rising_apart [] ys y r = refl
rising_apart (x ∷ xs) ys y r =
    neither_is (same_prefix y x) (list_any (same_prefix y) xs) (below_apart x y (further xs ys y x (sorted_head prefix_cmp x (xs ++ y ∷ ys) r)))
    (rising_apart xs ys y (sorted_tail prefix_cmp x (xs ++ y ∷ ys) r))

-- and what stands before it is below it
pub before_below : (xs ys : List PrefixValue) (y : PrefixValue) → IsStrictlySortedBy prefix_cmp (xs ++ y ∷ ys) → (x : PrefixValue)
    → list_any (same_prefix x) xs ≡ true → prefix_cmp x y ≡ Less
before_below [] ys y r x e = absurd (false≢true e)
before_below (z ∷ zs) ys y r x e =
    elim (same_prefix x z) as (λ b. same_prefix x z ≡ b → (b || list_any (same_prefix x) zs) ≡ true → prefix_cmp x y ≡ Less) [
      | true ↦ λ same f. subst (λ (w : PrefixValue). prefix_cmp w y ≡ Less)
          (sym (is_same x z same)) (further zs ys y z (sorted_head prefix_cmp z (zs ++ y ∷ ys) r))
      | false ↦ λ same f. before_below zs ys y (sorted_tail prefix_cmp z (zs ++ y ∷ ys) r) x f
    ] refl e

each_push : {A : Type 0} (P : A → Type 0) (xs : List A) (x : A) → AllByRecursion P xs → P x → AllByRecursion P (xs ++ x ∷ [])
each_push P [] x h p = (p, tt)
each_push P (y ∷ ys) x h p = (h.0, each_push P ys x h.1 p)

pub rising_push : (p : PrefixValue) (xs : List PrefixValue) → IsStrictlySortedBy prefix_cmp xs → All (λ q. prefix_cmp q p ≡ Less) xs
    → IsStrictlySortedBy prefix_cmp (xs ++ p ∷ [])
unfolding IsStrictlySortedBy
rising_push p [] h a = (tt, tt)
rising_push p (x ∷ xs) h a = (
  each_push (λ y. prefix_cmp x y ≡ Less) xs p h.0 (All-head (λ q. prefix_cmp q p ≡ Less) x xs a),
  rising_push p xs h.1 (All-tail (λ q. prefix_cmp q p ≡ Less) x xs a),
)

pub one_rises : (p : PrefixValue) → IsStrictlySortedBy prefix_cmp (p ∷ [])
unfolding IsStrictlySortedBy
one_rises p = (tt, tt)

-- what stands in a list has what all there have
pub member_has : (P : PrefixValue → Type 0) (y : PrefixValue) (xs : List PrefixValue) → All P xs → list_any (same_prefix y) xs ≡ true → P y
member_has P y [] h e = absurd (false≢true e)
member_has P y (x ∷ xs) h e =
    elim (same_prefix y x) as (λ b. same_prefix y x ≡ b → (b || list_any (same_prefix y) xs) ≡ true → P y) [
      | true ↦ λ same f. subst P (sym (is_same y x same)) (All-head P x xs h)
      | false ↦ λ same f. member_has P y xs (All-tail P x xs h) f
    ] refl e

pub back_has : (P : PrefixValue → Type 0) (xs ys : List PrefixValue) → All P (xs ++ ys) → All P ys
back_has P [] ys h = h
back_has P (x ∷ xs) ys h = back_has P xs ys (All-tail P x (xs ++ ys) h)
