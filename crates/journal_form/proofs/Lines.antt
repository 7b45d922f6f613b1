-- Lists that one element ends: where it stands for the first time.
use Rattle.std.proofs.Common.{◌≡◌, ◌≢◌, ℕ, List, [], ◌∷◌, ◌++◌, length, drop, get_or, refl, sym, ap, ◌∙◌, arith, ◌⊎◌, inl, inr}
use Rattle.std.specs.List.{AllByRecursion}

-- no element is this one
abbrev pub Without : ℕ → List ℕ → Type 0
Without s = AllByRecursion (λ x. x ≢ s)

pub Without-append : (s : ℕ) (xs ys : List ℕ) → Without s xs → Without s ys → Without s (xs ++ ys)
Without-append s [] ys a b = b
Without-append s (x ∷ xs) ys a b = (a.0, Without-append s xs ys a.1 b)

pub heads : (x y : ℕ) (xs ys : List ℕ) → x ∷ xs ≡ y ∷ ys → x ≡ y
heads x y xs ys e = ap (λ (zs : List ℕ). get_or zs 0 0) e

pub tails : (x y : ℕ) (xs ys : List ℕ) → x ∷ xs ≡ y ∷ ys → xs ≡ ys
tails x y xs ys e = ap (λ (zs : List ℕ). drop 1 zs) e

-- what stands before the element, where it stands for the first time, and what stands behind it
pub same_front : (s : ℕ) (xs ys us vs : List ℕ) → Without s xs → Without s ys → xs ++ s ∷ us ≡ ys ++ s ∷ vs → (xs ≡ ys) × (us ≡ vs)
same_front s [] [] us vs none few e = (refl, tails s s us vs e)
same_front s [] (y ∷ ys) us vs none few e = absurd (few.0 (sym (heads s y us (ys ++ s ∷ vs) e)))
same_front s (x ∷ xs) [] us vs none few e = absurd (none.0 (heads x s (xs ++ s ∷ us) vs e))
same_front s (x ∷ xs) (y ∷ ys) us vs none few e =
    let first : x ≡ y = heads x y (xs ++ s ∷ us) (ys ++ s ∷ vs) e in
    let more = same_front s xs ys us vs none.1 few.1 (tails x y (xs ++ s ∷ us) (ys ++ s ∷ vs) e) in
    (ap (λ (z : ℕ). z ∷ xs) first ∙ ap (λ (zs : List ℕ). y ∷ zs) more.0, more.1)

-- the element stands at the end of a line, and there or later behind what comes first
pub later : (s : ℕ) (line rest before behind : List ℕ) → Without s line → line ++ s ∷ rest ≡ before ++ s ∷ behind
    → (rest ≡ behind) ⊎ ((m : List ℕ) × (rest ≡ m ++ s ∷ behind))
later s [] rest [] behind none e = inl (tails s s rest behind e)
later s [] rest (b ∷ before) behind none e = inr (before, tails s b rest (before ++ s ∷ behind) e)
later s (x ∷ line) rest [] behind none e = absurd (none.0 (heads x s (line ++ s ∷ rest) behind e))
later s (x ∷ line) rest (b ∷ before) behind none e = later s line rest before behind none.1 (tails x b (line ++ s ∷ rest) (before ++ s ∷ behind) e)

-- parts of equal lists, of which the first ones are as long
pub same_parts : (xs ys us vs : List ℕ) → length xs ≡ length ys → xs ++ us ≡ ys ++ vs → (xs ≡ ys) × (us ≡ vs)
same_parts [] [] us vs long e = (refl, e)
same_parts [] (y ∷ ys) us vs long e = absurd (omega (arith, long))
same_parts (x ∷ xs) [] us vs long e = absurd (omega (arith, long))
same_parts (x ∷ xs) (y ∷ ys) us vs long e =
    let first : x ≡ y = heads x y (xs ++ us) (ys ++ vs) e in
    let more = same_parts xs ys us vs (omega (arith, long)) (tails x y (xs ++ us) (ys ++ vs) e) in
    (ap (λ (z : ℕ). z ∷ xs) first ∙ ap (λ (zs : List ℕ). y ∷ zs) more.0, more.1)
