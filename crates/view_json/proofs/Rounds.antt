-- Lists with numbers that nothing reads.
use Rattle.std.proofs.Common.{ℕ, ◌≡◌, ◌+◌, List, [], ◌∷◌, ◌++◌, refl, ap}
use Rattle.std.specs.List.{flat_map, enumerate_from}

-- what elements give that don't read their numbers
pub without_numbers : {X A : Type 0} (f : X → List A) (n : ℕ) (xs : List X) → flat_map (λ m. f m.1) (enumerate_from n xs) ≡ flat_map f xs
without_numbers f n [] = refl
without_numbers f n (x ∷ xs) = ap (λ l. f x ++ l) (without_numbers f (n + 1) xs)
