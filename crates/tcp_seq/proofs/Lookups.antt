-- Look-ups in lists that are cut and joined, and in one option or another.
use Rattle.std.proofs.Common.{◌≡◌, ℕ, zero, suc, ◌+◌, ◌<◌, List, [], ◌∷◌, ◌++◌, length, take, drop}
use Rattle.std.proofs.Common.{Option, Some, None, refl, sym, ap, ◌∙◌, arith, ◌⊎◌, inl, inr}
use Rattle.std.specs.List.{slice_get}
use Rattle.std.specs.Option.{option_or}

pub get-append_left : {X : Type 0} (xs ys : List X) (i : ℕ) → i < length xs → slice_get (xs ++ ys) i ≡ slice_get xs i
get-append_left [] ys i below = absurd (omega (arith, below))
get-append_left (x ∷ xs) ys zero below = refl
get-append_left (x ∷ xs) ys (suc i) below = get-append_left xs ys i (omega (arith, below))

pub get-append_right : {X : Type 0} (xs ys : List X) (i j : ℕ) → i ≡ length xs + j → slice_get (xs ++ ys) i ≡ slice_get ys j
get-append_right [] ys i j is = ap (slice_get ys) (let e : i ≡ j = omega (arith, is) in e)
get-append_right (x ∷ xs) ys zero j is = absurd (omega (arith, is))
get-append_right (x ∷ xs) ys (suc i) j is = get-append_right xs ys i j (omega (arith, is))

pub get-drop : {X : Type 0} (n : ℕ) (xs : List X) (i j : ℕ) → j ≡ n + i → slice_get (drop n xs) i ≡ slice_get xs j
get-drop zero xs i j is = ap (slice_get xs) (let e : i ≡ j = omega (arith, is) in e)
get-drop (suc n) [] i j is = refl
get-drop (suc n) (x ∷ xs) i zero is = absurd (omega (arith, is))
get-drop (suc n) (x ∷ xs) i (suc j) is = get-drop n xs i j (omega (arith, is))

pub get-take : {X : Type 0} (n : ℕ) (xs : List X) (i : ℕ) → i < n → slice_get (take n xs) i ≡ slice_get xs i
get-take zero xs i below = absurd (omega (arith, below))
get-take (suc n) [] i below = refl
get-take (suc n) (x ∷ xs) zero below = refl
get-take (suc n) (x ∷ xs) (suc i) below = get-take n xs i (omega (arith, below))

pub or_assoc : {X : Type 0} (a b c : Option X) → option_or (option_or a b) c ≡ option_or a (option_or b c)
or_assoc None b c = refl
or_assoc (Some x) b c = refl

pub or_none : {X : Type 0} (a : Option X) → option_or a None ≡ a
or_none None = refl
or_none (Some x) = refl

-- two that aren't both there change offsets
pub or_swap : {X : Type 0} (a b c : Option X) → (b ≡ None) ⊎ (c ≡ None) → option_or (option_or a b) c ≡ option_or (option_or a c) b
or_swap (Some x) b c apart = refl
or_swap None b c (inl e) = ap (λ o. option_or o c) e ∙ sym (ap (option_or c) e ∙ or_none c)
or_swap None b c (inr e) = (ap (option_or b) e ∙ or_none b) ∙ sym (ap (λ o. option_or o b) e)

pub or_first : {X : Type 0} (a b : Option X) → option_or a b ≡ None → a ≡ None
or_first None b e = refl
or_first (Some x) b e = e

pub or_second : {X : Type 0} (a b : Option X) → option_or a b ≡ None → b ≡ None
or_second None b e = e
or_second (Some x) b e = cc
