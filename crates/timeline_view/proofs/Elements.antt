-- Elements of a list, one more at a time.
use Rattle.std.proofs.Common.{ℕ, ◌≡◌, ◌+◌, ◌<◌, List, [], ◌∷◌, ◌++◌, length, take, sym, ap, ◌∙◌, get_or, slice_index_or}
use Rattle.std.proofs.lemmas.List.{take_more, get_or_default, flat_map_more}
use Rattle.std.specs.List.{flat_map}

-- the first elements and one more
pub taken_more : {X : Type 0} (xs : List X) (i : ℕ) (x : X) → i < length xs → x ≡ slice_index_or xs i x → take i xs ++ x ∷ [] ≡ take (i + 1) xs
taken_more {X} xs i x lt at = ap (λ (y : X). take i xs ++ y ∷ []) at ∙ sym (take_more xs i x lt)

-- an element that was read by its index
pub read_at : {X : Type 0} (xs : List X) (i : ℕ) (d : X) → i < length xs → get_or xs i d ≡ slice_index_or xs i (get_or xs i d)
read_at xs i d lt = get_or_default xs i d (get_or xs i d) lt

-- what one element more gives, behind what stood there before
pub piece_more : {X A : Type 0} (f : X → List A) (xs : List X) (i : ℕ) (x : X) (before so_far after : List A) → i < length xs → x ≡ slice_index_or xs i x
    → so_far ≡ before ++ flat_map f (take i xs) → after ≡ so_far ++ f x → after ≡ before ++ flat_map f (take (i + 1) xs)
piece_more {X} {A} f xs i x before so_far after lt at so is =
    is ∙ ap (λ (l : List A). l ++ f x) so ∙ flat_map_more f before (take i xs) x
    ∙ ap (λ (ys : List X). before ++ flat_map f ys) (taken_more xs i x lt at)
