-- The greatest of some numbers.
use Rattle.std.proofs.Common.{◌≡◌, ◌≤◌, ◌<◌, ℕ, zero, suc, max, List, [], ◌∷◌, ◌++◌, length, fold, replicate, get_or, set, refl, ◌∙◌, arith}
use Rattle.run_clocks.specs.Clocks.{greatest}

from_base : (a : ℕ) (xs : List ℕ) → fold max a xs ≡ max a (greatest xs)
from_base a [] = omega arith
from_base a (x ∷ xs) = let one = from_base (max a x) xs in let other = from_base (max 0 x) xs in omega (arith, one, other)

one_first : (x : ℕ) (xs : List ℕ) → greatest (x ∷ xs) ≡ max x (greatest xs)
one_first x xs = from_base (max 0 x) xs ∙ omega arith

from_base_more : (a : ℕ) (xs : List ℕ) (x : ℕ) → fold max a (xs ++ x ∷ []) ≡ max (fold max a xs) x
from_base_more a [] x = refl
from_base_more a (y ∷ ys) x = from_base_more (max a y) ys x

pub greatest_more : (xs : List ℕ) (x : ℕ) → greatest (xs ++ x ∷ []) ≡ max (greatest xs) x
greatest_more xs x = from_base_more 0 xs x

pub greatest_bounds : (xs : List ℕ) (i : ℕ) → get_or xs i 0 ≤ greatest xs
greatest_bounds [] i = omega arith
greatest_bounds (x ∷ xs) zero = let first = one_first x xs in omega (arith, first)
greatest_bounds (x ∷ xs) (suc i) = let first = one_first x xs in let rest = greatest_bounds xs i in omega (arith, first, rest)

-- one of them rises
pub greatest_set : (xs : List ℕ) (i c : ℕ) → i < length xs → get_or xs i 0 ≤ c → greatest (set xs i c) ≡ max (greatest xs) c
greatest_set [] i c there rises = absurd (omega (arith, there))
greatest_set (x ∷ xs) zero c there rises = let before = one_first x xs in let after = one_first c xs in omega (arith, before, after, rises)
greatest_set (x ∷ xs) (suc i) c there rises =
    let before = one_first x xs in
    let after = one_first x (set xs i c) in
    let rest = greatest_set xs i c (omega (arith, there)) rises in
    omega (arith, before, after, rest)

replicate_bounded : (n c : ℕ) → greatest (replicate n c) ≤ c
replicate_bounded zero c = omega arith
replicate_bounded (suc n) c = let first = one_first c (replicate n c) in let rest = replicate_bounded n c in omega (arith, first, rest)

pub greatest_level : (n c : ℕ) → 0 < n → greatest (replicate n c) ≡ c
greatest_level zero c some = absurd (omega (arith, some))
greatest_level (suc n) c some = let first = one_first c (replicate n c) in let rest = replicate_bounded n c in omega (arith, first, rest)
