-- Lists that are made from numbered elements.
use Rattle.std.proofs.Common.{◌≡◌, ℕ, ◌+◌, ◌-◌, Bool, true, false, cond, List, [], ◌∷◌, ◌++◌, length, map, filter, refl, ap, ◌∙◌, arith}
use Rattle.std.specs.Prelude.{Option, Some, None, option_map, slice_get}
use Rattle.std.specs.List.{flat_map, enumerate_from, last_or}

-- what is made from elements with their numbers, and then seen without them
pub map_numbered : {X Y Z : Type 0} (f : ℕ × X → Y) (g : Y → Z) (h : X → Z) → ((n : ℕ) (x : X) → g (f (n, x)) ≡ h x) → (xs : List X) (n : ℕ)
    → map g (map f (enumerate_from n xs)) ≡ map h xs
map_numbered f g h same [] n = refl
map_numbered f g h same (x ∷ xs) n = ap (λ z. z ∷ map g (map f (enumerate_from (n + 1) xs))) (same n x)
    ∙ ap (λ zs. h x ∷ zs) (map_numbered f g h same xs (n + 1))

-- those of what is made that pass a test
pub filter_numbered : {X Y Z : Type 0} (f : ℕ × X → Y) (g : Y → Z) (test : Y → Bool) (xs : List X) (n : ℕ)
    → flat_map (λ x. cond (test (f x)) (g (f x) ∷ []) []) (enumerate_from n xs) ≡ map g (filter test (map f (enumerate_from n xs)))
filter_numbered f g test [] n = refl
filter_numbered f g test (x ∷ xs) n = by_test (test (f (n, x))) (filter_numbered f g test xs (n + 1)) where
  by_test : (t : Bool)
      → flat_map (λ x. cond (test (f x)) (g (f x) ∷ []) []) (enumerate_from (n + 1) xs) ≡ map g (filter test (map f (enumerate_from (n + 1) xs)))
      → cond t (g (f (n, x)) ∷ []) [] ++ flat_map (λ x. cond (test (f x)) (g (f x) ∷ []) []) (enumerate_from (n + 1) xs)
      ≡ map g (cond t (f (n, x) ∷ filter test (map f (enumerate_from (n + 1) xs))) (filter test (map f (enumerate_from (n + 1) xs))))
  by_test true rest = ap (λ zs. g (f (n, x)) ∷ zs) rest
  by_test false rest = rest

pub last_mapped : {X Y : Type 0} (f : X → Y) (o : Option X) (xs : List X) → last_or (option_map f o) (map f xs) ≡ option_map f (last_or o xs)
last_mapped f o [] = refl
last_mapped f o (x ∷ xs) = last_mapped f (Some x) xs

pub map_append : {X Y : Type 0} (f : X → Y) (xs ys : List X) → map f (xs ++ ys) ≡ map f xs ++ map f ys
map_append f [] ys = refl
map_append f (x ∷ xs) ys = ap (λ zs. f x ∷ zs) (map_append f xs ys)

pub map_mapped : {X Y Z : Type 0} (f : X → Y) (g : Y → Z) (h : X → Z) → ((x : X) → g (f x) ≡ h x) → (xs : List X) → map g (map f xs) ≡ map h xs
map_mapped f g h same [] = refl
map_mapped f g h same (x ∷ xs) = ap (λ z. z ∷ map g (map f xs)) (same x) ∙ ap (λ zs. h x ∷ zs) (map_mapped f g h same xs)

-- what stands at the last index is the last element
last_from : {X : Type 0} (o : Option X) (x : X) (xs : List X) → slice_get (x ∷ xs) (length xs) ≡ last_or o (x ∷ xs)
last_from o x [] = refl
last_from o x (y ∷ ys) = last_from (Some x) y ys

pub last_is : {X : Type 0} (xs : List X) → slice_get xs (length xs - 1) ≡ last_or None xs
last_is [] = refl
last_is (x ∷ xs) = let e : length (x ∷ xs) - 1 ≡ length xs = omega arith in ap (slice_get (x ∷ xs)) e ∙ last_from None x xs
