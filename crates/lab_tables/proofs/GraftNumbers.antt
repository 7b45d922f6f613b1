-- How many numbers of grafts a script takes, added up within 32 bits.
use Rattle.std.proofs.Common.{◌≡◌, ℕ, ◌+◌, min, List, [], ◌∷◌, map, refl, sym, ap, ◌∙◌, arith}
use Rattle.std.specs.Prelude.{sum_by}
use Rattle.std.proofs.lemmas.List.Sums.{sum_by-cons}

pub sum_mapped : {X Y : Type 0} (f : Y → ℕ) (g : X → Y) (xs : List X) → sum_by (λ x. f (g x)) xs ≡ sum_by f (map g xs)
sum_mapped f g [] = refl
sum_mapped f g (x ∷ xs) = sum_by-cons (λ y. f (g y)) x xs ∙ ap (λ n. f (g x) + n) (sum_mapped f g xs) ∙ sym (sum_by-cons f (g x) (map g xs))

-- a sum of capped numbers, capped, is the sum of the numbers, capped
pub capped : (a b p q next : ℕ) → p ≡ min 4294967295 a → q ≡ min b 4294967295 → next ≡ min (p + q) 4294967295 → next ≡ min 4294967295 (a + b)
capped a b p q next first second is = omega (arith, first, second, is)
