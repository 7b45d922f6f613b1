-- Lists in which no number stands twice.
use Rattle.std.proofs.Common.{◌≡◌, ℕ, zero, suc, ◌<◌, List, [], ◌∷◌, ◌++◌, refl, sym, subst, arith, inl, inr, ◌⊎◌}
use Rattle.std.specs.List.{Contains}
use Rattle.std.proofs.lemmas.List.Elements.{Contains-append_left, Contains-append_right, Contains-append_cases}
use Rattle.prefix_trie.specs.Arena.{AreApart}

-- what a list with one more in front contains
pub first_or_rest : (x : ℕ) (xs : List ℕ) (q : ℕ) → Contains (x ∷ xs) q → (q ≡ x) ⊎ Contains xs q
first_or_rest x xs q (zero, lt, at) = inl (sym at)
first_or_rest x xs q (suc i, lt, at) = inr (i, omega arith, at)

pub in_none : (q : ℕ) → Contains [] q → ⊥
in_none q inside = absurd (let lt : inside.0 < 0 = inside.1 in omega (arith, lt))

pub left_apart : (xs ys : List ℕ) → AreApart (xs ++ ys) → AreApart xs
left_apart [] ys apart = tt
left_apart (x ∷ xs) ys apart = ((λ inside. apart.0 (Contains-append_left xs ys x inside)), left_apart xs ys apart.1)

pub right_apart : (xs ys : List ℕ) → AreApart (xs ++ ys) → AreApart ys
right_apart [] ys apart = apart
right_apart (x ∷ xs) ys apart = right_apart xs ys apart.1

pub never_both : (xs ys : List ℕ) → AreApart (xs ++ ys) → (q : ℕ) → Contains xs q → Contains ys q → ⊥
never_both [] ys apart q left right = in_none q left
never_both (x ∷ xs) ys apart q left right = elim (first_or_rest x xs q left) [
  | inl is ↦ apart.0 (Contains-append_right xs ys x (subst (Contains ys) is right))
  | inr inside ↦ never_both xs ys apart.1 q inside right
]

pub both_apart : (xs ys : List ℕ) → AreApart xs → AreApart ys → ((q : ℕ) → Contains xs q → Contains ys q → ⊥) → AreApart (xs ++ ys)
both_apart [] ys left right never = right
both_apart (x ∷ xs) ys left right never = (
  (λ inside. elim (Contains-append_cases xs ys x inside) [
    | inl a ↦ left.0 a
    | inr b ↦ never x (0, omega arith, refl) b
  ]),
  both_apart xs ys left.1 right (λ q a b. never q (Contains-append_right (x ∷ []) xs q a) b),
)
