-- The first thing, and the lowest peering, of several.
use Rattle.std.proofs.Common.{◌≡◌, ◌≢◌, ◌≤◌, ◌<◌, ◌+◌, ◌∙◌, ℕ, zero, suc, List, [], ◌∷◌, ◌++◌, length, map, take, Option}
use Rattle.std.proofs.Common.{Some, None, refl, ap, sym, subst, arith, inl, inr, length-append, add-one}
use Rattle.std.specs.Prelude.{◌⊎◌, slice_get}
use Rattle.std.specs.List.{Any}
use Rattle.std.specs.declared.cmp.Ordering.TheVariants.{Greater}
use Rattle.std.proofs.Math.ListN.{get_or-append}
use Rattle.std.proofs.Math.Seq.{get_or-append_seam}
use Rattle.std.proofs.lemmas.List.Quantifiers.{Any-push}
use Rattle.graft_steps.specs.declared.rest.Pending.{Pending}
use Rattle.graft_steps.specs.declared.rest.Pending.TheVariants.{Channel}
use Rattle.graft_steps.specs.Pendings.{pending_cmp}
use Rattle.settled_check.specs.Firsts.{IsFirstOf, IsEither}
use Rattle.settled_check.proofs.Firsts.{first_of_both, two_numbers}
use Rattle.world_nodes.specs.Looks.{IsLowest, IsOneOf}

-- ---- lists with one more at their end

below_or_past : (k n : ℕ) → (k < n) ⊎ (n ≤ k)
below_or_past k n = grind arith

any_split : {X : Type 0} (P : X → Type 0) (xs : List X) (y : X) → Any P (xs ++ y ∷ []) → Any P xs ⊎ P y
any_split P xs y any = elim (below_or_past any.0 (length xs)) [
  | inl l ↦ inl (any.0, any.1, l, sym (get_or-append xs (y ∷ []) any.1 any.0 l) ∙ any.3, any.4)
  | inr past ↦
      let last : any.0 ≡ length xs = omega (arith, past, any.2, length-append xs (y ∷ [])) in
      inr (subst P (sym any.3 ∙ rw last (get_or-append_seam xs y [] any.1)) any.4)
]

any_left : {X : Type 0} (P : X → Type 0) (xs : List X) (y : X) → Any P xs → Any P (xs ++ y ∷ [])
any_left P xs y any = (any.0, any.1, omega (arith, any.2, length-append xs (y ∷ [])), get_or-append xs (y ∷ []) any.1 any.0 any.2 ∙ any.3, any.4)

none_of_none : {X : Type 0} (P : X → Type 0) → Any P [] → ⊥
none_of_none P any = absurd (omega (arith, any.2))

pub take_mapped : {X Y : Type 0} (f : X → Y) (xs : List X) (k : ℕ) (x : X) → slice_get xs k ≡ Some x → take (k + 1) (map f xs) ≡ take k (map f xs) ++ f x ∷ []
take_mapped {X = X} f xs k x is = rw add-one (by_cases xs k is)
  where
    by_cases : (ys : List X) (n : ℕ) → slice_get ys n ≡ Some x → take (suc n) (map f ys) ≡ take n (map f ys) ++ f x ∷ []
    by_cases [] n e = absurd cc
    by_cases (y ∷ ys) zero e = let same : y ≡ x = cc in ap (λ z. f z ∷ []) same
    by_cases (y ∷ ys) (suc n) e = ap (λ zs. f y ∷ zs) (by_cases ys n e)

pub empty_by_length : {X : Type 0} (xs : List X) → length xs ≡ 0 → xs ≡ []
empty_by_length [] e = refl
empty_by_length (x ∷ xs) e = absurd (omega (arith, e))

-- ---- the first thing

pub first_same : (One Two : Pending → Type 0) (answer : Option Pending) → ((x : Pending) → One x → Two x) → ((x : Pending) → Two x → One x)
    → IsFirstOf One answer → IsFirstOf Two answer
first_same One Two None to from none = λ x two. none x (from x two)
first_same One Two (Some first) to from is = (to first is.0, λ x two. is.1 x (from x two))

module _ {X : Type 0} (P : X → Pending → Type 0) where
  pub first_of_none : IsFirstOf (λ x. Any (λ b. P b x) []) None
  first_of_none = λ x any. none_of_none (λ b. P b x) any

  pub first_of_more : (xs : List X) (y : X) (one other both : Option Pending) → IsFirstOf (λ x. Any (λ b. P b x) xs) one → IsFirstOf (P y) other
      → IsFirstOf (IsEither one other) both
      → IsFirstOf (λ x. Any (λ b. P b x) (xs ++ y ∷ [])) both
  first_of_more xs y one other both is is' first = first_same (λ x. Any (λ b. P b x) xs ⊎ P y x) (λ x. Any (λ b. P b x) (xs ++ y ∷ [])) both
      (λ x either. elim either [ inl any ↦ any_left (λ b. P b x) xs y any | inr last ↦ Any-push (λ b. P b x) xs y last ])
      (λ x any. any_split (λ b. P b x) xs y any)
      (first_of_both (λ x. Any (λ b. P b x) xs) (P y) one other both is is' first)

  pub first_of_same : (xs : List X) (y : X) (one : Option Pending) → IsFirstOf (λ x. Any (λ b. P b x) xs) one → ((x : Pending) → P y x → ⊥)
      → IsFirstOf (λ x. Any (λ b. P b x) (xs ++ y ∷ [])) one
  first_of_same xs y one is not = first_same (λ x. Any (λ b. P b x) xs) (λ x. Any (λ b. P b x) (xs ++ y ∷ [])) one
      (λ x any. any_left (λ b. P b x) xs y any)
      (λ x any. elim (any_split (λ b. P b x) xs y any) [ inl before ↦ before | inr last ↦ absurd (not x last) ]) is

-- an item is on its way along one edge
pub first_sent : {I : Type 0} (channel : ℕ → ℕ → List I) (a b : ℕ) → channel a b ≢ []
    → IsFirstOf (λ x. (x ≡ Channel a b) × (channel a b ≢ [])) (Some (Channel a b))
first_sent channel a b some = ((refl, some), λ x is. subst (λ y. pending_cmp (Channel a b) y ≢ Greater) (sym is.0) (two_numbers a b b (omega arith)))

-- ---- the lowest peering

pub lowest_same : (One Two : ℕ → ℕ → Type 0) (answer : Option (ℕ × ℕ)) → ((p n : ℕ) → One p n → Two p n) → ((p n : ℕ) → Two p n → One p n)
    → IsLowest One answer → IsLowest Two answer
lowest_same One Two None to from none = λ p n two. none p n (from p n two)
lowest_same One Two (Some x) to from is = (to x.0 x.1 is.0, λ p n lower two. is.1 p n lower (from p n two))

-- of two answers the lower one
pub lowest_of_both : (One Other : ℕ → ℕ → Type 0) (one other both : Option (ℕ × ℕ)) → IsLowest One one → IsLowest Other other
    → IsLowest (IsOneOf one other) both → IsLowest (λ p n. One p n ⊎ Other p n) both
lowest_of_both One Other one other None is is' none = λ p n either. elim either [
  | inl here ↦ let f = answered One one is p n here in none f.0 f.1 (inl f.2)
  | inr here ↦ let f = answered Other other is' p n here in none f.0 f.1 (inr f.2)
]
  where
    answered : (Is : ℕ → ℕ → Type 0) (answer : Option (ℕ × ℕ)) → IsLowest Is answer → (p n : ℕ) → Is p n → (q : ℕ) × (m : ℕ) × (answer ≡ Some (q, m))
    answered Is None is p n here = absurd (is p n here)
    answered Is (Some x) is p n here = (x.0, x.1, refl)
lowest_of_both One Other one other (Some x) is is' first = (
  elim (first.0) [ inl e ↦ inl (named One one is e) | inr e ↦ inr (named Other other is' e) ],
  λ p n lower either. elim either [
    | inl here ↦ let f = before One one is p n here in first.1 f.0 f.1 (omega (arith, lower, f.3)) (inl f.2)
    | inr here ↦ let f = before Other other is' p n here in first.1 f.0 f.1 (omega (arith, lower, f.3)) (inr f.2)
  ],
)
  where
    named : (Is : ℕ → ℕ → Type 0) (answer : Option (ℕ × ℕ)) → IsLowest Is answer → answer ≡ Some (x.0, x.1) → Is x.0 x.1
    named Is None is e = absurd cc
    named Is (Some y) is e = let same : y ≡ x = cc in subst (λ (z : ℕ × ℕ). Is z.0 z.1) same is.0

    before : (Is : ℕ → ℕ → Type 0) (answer : Option (ℕ × ℕ)) → IsLowest Is answer → (p n : ℕ) → Is p n → (q : ℕ) × (m : ℕ) × (answer ≡ Some (q, m)) × (q ≤ p)
    before Is None is p n here = absurd (is p n here)
    before Is (Some y) is p n here = elim (below_or_past p y.0) [ inl l ↦ absurd (is.1 p n l here) | inr le ↦ (y.0, y.1, refl, le) ]

module _ {X : Type 0} (P : X → ℕ → ℕ → Type 0) where
  pub lowest_of_none : IsLowest (λ p n. Any (λ b. P b p n) []) None
  lowest_of_none = λ p n any. none_of_none (λ b. P b p n) any

  pub lowest_of_more : (xs : List X) (y : X) (one other both : Option (ℕ × ℕ)) → IsLowest (λ p n. Any (λ b. P b p n) xs) one → IsLowest (P y) other
      → IsLowest (IsOneOf one other) both
      → IsLowest (λ p n. Any (λ b. P b p n) (xs ++ y ∷ [])) both
  lowest_of_more xs y one other both is is' first = lowest_same (λ p n. Any (λ b. P b p n) xs ⊎ P y p n) (λ p n. Any (λ b. P b p n) (xs ++ y ∷ [])) both
      (λ p n either. elim either [ inl any ↦ any_left (λ b. P b p n) xs y any | inr last ↦ Any-push (λ b. P b p n) xs y last ])
      (λ p n any. any_split (λ b. P b p n) xs y any)
      (lowest_of_both (λ p n. Any (λ b. P b p n) xs) (P y) one other both is is' first)
