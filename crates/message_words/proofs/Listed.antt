-- Words of the members of a list, one more at a time.
use Rattle.std.proofs.Common.{◌≡◌, ℕ, ◌+◌, ◌<◌, List, [], ◌∷◌, ◌++◌, length, take, sym, ap, ◌∙◌, append_assoc, append-nil, slice_index_or}
use Rattle.std.specs.List.{flat_map}
use Rattle.std.proofs.lemmas.List.{take_more}
use Rattle.std.proofs.lemmas.Grind.{flat_map-append}

-- the words of one member more stand behind those of the others
pub listed_more : {X : Type 0} (f : X → List ℕ) (xs : List X) (i : ℕ) (x : X) (before so_far after : List ℕ) → i < length xs
    → x ≡ slice_index_or xs i x → so_far ≡ before ++ flat_map f (take i xs) → after ≡ so_far ++ f x
    → after ≡ before ++ flat_map f (take (i + 1) xs)
listed_more {X} f xs i x before so_far after lt at so is =
    let more : take (i + 1) xs ≡ take i xs ++ x ∷ [] = take_more xs i x lt ∙ ap (λ (y : X). take i xs ++ y ∷ []) (sym at) in
    let own : flat_map f (take (i + 1) xs) ≡ flat_map f (take i xs) ++ f x =
    ap (flat_map f) more ∙ flat_map-append f (take i xs) (x ∷ []) ∙ ap (λ (l : List ℕ). flat_map f (take i xs) ++ l) (append-nil (f x)) in
    is ∙ ap (λ (l : List ℕ). l ++ f x) so ∙ append_assoc before (flat_map f (take i xs)) (f x) ∙ ap (λ (l : List ℕ). before ++ l) (sym own)
