-- The first of pending things, of one set and of two.
use Rattle.std.proofs.Common.{◌≡◌, ℕ, ◌≤◌, cond, Option, Some, None, [], ◌∷◌, refl, sym, ap, ◌∙◌, subst, inl, inr, arith}
use Rattle.std.specs.Prelude.{◌≢◌, ◌⊎◌}
use Rattle.std.specs.Option.{option_map}
use Rattle.std.specs.declared.cmp.Ordering.{Ordering}
use Rattle.std.specs.declared.cmp.Ordering.TheVariants.{Less, Equal, Greater}
use Rattle.std.specs.Ordering.{nat_cmp, ordering_reverse, is_lt, ord_min}
use Rattle.std.specs.Cmp.{IsTotalOrder, alike_right, nat_cmp_total}
use Rattle.std.specs.Cmp.Lexicographic.{slice_cmp, nat_list_cmp_total}
use Rattle.std.proofs.lemmas.Cmp.{on_total, then_total}
use Rattle.std.proofs.lemmas.Bool.Decides.{nat_tests}
use Rattle.graft_steps.specs.declared.rest.Pending.{Pending}
use Rattle.graft_steps.specs.Pendings.{pending_cmp, kind_index, numbers_of}
use Rattle.settled_check.specs.Firsts.{IsFirstOf, IsLowestOf, IsEither}

pending_total : IsTotalOrder pending_cmp
pending_total = then_total (on_total kind_index nat_cmp_total) (on_total numbers_of nat_list_cmp_total)

-- not after a thing that is not after a third: not after the third
pub not_after : (x y z : Pending) → pending_cmp x y ≢ Greater → pending_cmp y z ≢ Greater → pending_cmp x z ≢ Greater
not_after x y z le le' = by_cases (pending_cmp x y) (pending_cmp y z) refl refl le le'
  where
    by_cases : (o o' : Ordering) → pending_cmp x y ≡ o → pending_cmp y z ≡ o' → o ≢ Greater → o' ≢ Greater → pending_cmp x z ≢ Greater
    by_cases Less Less e e' n n' g = let less : pending_cmp x z ≡ Less = pending_total.trans x y z e e' in absurd cc
    by_cases Less Equal e e' n n' g = let same : pending_cmp x y ≡ pending_cmp x z = alike_right pending_total y z x e' in absurd cc
    by_cases Less Greater e e' n n' g = n' refl
    by_cases Equal o' e e' n n' g = let same : pending_cmp x z ≡ pending_cmp y z = pending_total.congr x y z e in n' (sym e' ∙ sym same ∙ g)
    by_cases Greater o' e e' n n' g = n refl

-- nothing is after itself
not_itself : (x : Pending) → pending_cmp x x ≢ Greater
not_itself x g = let e : Greater ≡ Less = sym g ∙ pending_total.antisymm x x ∙ ap ordering_reverse g in absurd cc

-- the lesser of two things is the first of both
pub first_of_two : (cmp : Pending → Pending → Ordering) → ((x y : Pending) → cmp x y ≡ pending_cmp x y)
    → (one other : Option Pending) (a b m : Pending) → one ≡ Some a → other ≡ Some b → m ≡ ord_min cmp a b
    → IsFirstOf (IsEither one other) (Some m)
first_of_two cmp derived one other a b m is_a is_b is_m = by_order (pending_cmp b a) refl (is_m ∙ ap (λ o. cond (is_lt o) b a) (derived b a))
  where
    value : (o : Option Pending) (x y : Pending) → o ≡ Some x → o ≡ Some y → x ≡ y
    value o x y e f = cc

    lower : pending_cmp b a ≡ Less → m ≡ b → IsFirstOf (IsEither one other) (Some m)
    lower less e = subst (λ (z : Pending). IsFirstOf (IsEither one other) (Some z)) (sym e) (
      inr is_b,
      λ x either. elim either [
        | inl f ↦ subst (λ (z : Pending). pending_cmp b z ≢ Greater) (value one a x is_a f) (λ g. absurd (let h : Less ≡ Greater = sym less ∙ g in cc))
        | inr f ↦ subst (λ (z : Pending). pending_cmp b z ≢ Greater) (value other b x is_b f) (not_itself b)
      ],
    )

    higher : pending_cmp b a ≢ Less → m ≡ a → IsFirstOf (IsEither one other) (Some m)
    higher not_less e = subst (λ (z : Pending). IsFirstOf (IsEither one other) (Some z)) (sym e) (
      inl is_a,
      λ x either. elim either [
        | inl f ↦ subst (λ (z : Pending). pending_cmp a z ≢ Greater) (value one a x is_a f) (not_itself a)
        | inr f ↦ subst (λ (z : Pending). pending_cmp a z ≢ Greater) (value other b x is_b f)
            (λ g. not_less (pending_total.antisymm b a ∙ ap ordering_reverse g))
      ],
    )

    by_order : (o : Ordering) → pending_cmp b a ≡ o → m ≡ cond (is_lt o) b a → IsFirstOf (IsEither one other) (Some m)
    by_order Less less e = lower less e
    by_order Equal same e = higher (λ less. absurd (let h : Equal ≡ Less = sym same ∙ less in cc)) e
    by_order Greater more e = higher (λ less. absurd (let h : Greater ≡ Less = sym more ∙ less in cc)) e

-- Where each thing of one set is in another, and each of the other isn't before one of the first, both have one first thing.
pub first_of_more : (Few Many : Pending → Type 0) (answer : Option Pending) → ((x : Pending) → Few x → Many x)
    → ((y : Pending) → Many y → (x : Pending) × Few x × (pending_cmp x y ≢ Greater))
    → IsFirstOf Few answer → IsFirstOf Many answer
first_of_more Few Many None more few none = λ y many. none (few y many).0 (few y many).1
first_of_more Few Many (Some first) more few is =
    (more first is.0, λ y many. not_after first (few y many).0 y (is.1 (few y many).0 (few y many).1) (few y many).2)

-- the first of two sets, of the first things of each
pub first_of_both : (One Other : Pending → Type 0) (one other both : Option Pending) → IsFirstOf One one → IsFirstOf Other other
    → IsFirstOf (IsEither one other) both
    → IsFirstOf (λ x. One x ⊎ Other x) both
first_of_both One Other one other both is is' first = first_of_more (IsEither one other) (λ x. One x ⊎ Other x) both
    (λ x either. elim either [ inl e ↦ inl (named One one is x e) | inr e ↦ inr (named Other other is' x e) ])
    (λ y some. elim some [
      | inl one_is ↦ let f : (x : Pending) × (one ≡ Some x) × (pending_cmp x y ≢ Greater) = before One one is y one_is in (f.0, inl f.1, f.2)
      | inr other_is ↦ let f : (x : Pending) × (other ≡ Some x) × (pending_cmp x y ≢ Greater) = before Other other is' y other_is in (f.0, inr f.1, f.2)
    ]) first
  where
    named : (Is : Pending → Type 0) (answer : Option Pending) → IsFirstOf Is answer → (x : Pending) → answer ≡ Some x → Is x
    named Is None is x e = absurd cc
    named Is (Some first) is x e = let same : first ≡ x = cc in subst Is same is.0

    before : (Is : Pending → Type 0) (answer : Option Pending) → IsFirstOf Is answer → (y : Pending) → Is y
        → (x : Pending) × (answer ≡ Some x) × (pending_cmp x y ≢ Greater)
    before Is None is y there = absurd (is y there)
    before Is (Some first) is y there = (first, refl, is.1 y there)

-- ---- numbers

-- the lowest number, where there is one at all
pub lowest : {A : Type 0} (number : A → ℕ) (Is : ℕ → Type 0) (answer : Option A) (n : ℕ) → IsLowestOf Is (option_map number answer) → Is n
    → (m : A) × (answer ≡ Some m) × (number m ≤ n)
lowest number Is None n is there = absurd (is n there)
lowest number Is (Some m) n is there = (m, refl, is.1 n there)

pub lowest_number : (Is : ℕ → Type 0) (answer : Option ℕ) (n : ℕ) → IsLowestOf Is answer → Is n → (m : ℕ) × (answer ≡ Some m) × (m ≤ n)
lowest_number Is None n is there = absurd (is n there)
lowest_number Is (Some m) n is there = (m, refl, is.1 n there)

pub is_lowest : {A : Type 0} (number : A → ℕ) (Is : ℕ → Type 0) (answer : Option A) (m : A) → IsLowestOf Is (option_map number answer)
    → answer ≡ Some m → Is (number m)
is_lowest number Is None m is e = absurd cc
is_lowest number Is (Some n) m is e = let same : n ≡ m = cc in subst (λ x. Is (number x)) same is.0

pub is_lowest_number : (Is : ℕ → Type 0) (answer : Option ℕ) (m : ℕ) → IsLowestOf Is answer → answer ≡ Some m → Is m
is_lowest_number Is None m is e = absurd cc
is_lowest_number Is (Some n) m is e = let same : n ≡ m = cc in subst Is same is.0

pub one_number : (m n : ℕ) → m ≤ n → slice_cmp nat_cmp (m ∷ []) (n ∷ []) ≢ Greater
one_number m n le g = grind (arith, nat_tests)

pub two_numbers : (k m n : ℕ) → m ≤ n → slice_cmp nat_cmp (k ∷ m ∷ []) (k ∷ n ∷ []) ≢ Greater
two_numbers k m n le g = grind (arith, nat_tests)
