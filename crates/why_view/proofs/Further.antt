-- Lists in a loop, one element further.
use Rattle.std.proofs.Common.{◌≡◌, ℕ, ◌+◌, ◌<◌, List, [], ◌∷◌, ◌++◌, Option, length, take, ap, sym, ◌∙◌, append_assoc, append-nil, slice_index_or}
use Rattle.std.specs.List.{cons_option, filter_map, flat_map}
use Rattle.std.proofs.lemmas.List.{take_more}
use Rattle.std.proofs.lemmas.List.Concat.{flat_map-append}
use Rattle.std.proofs.lemmas.List.Elements.{filter_map-append}

pub one_more : {X : Type 0} (xs : List X) (i : ℕ) (x : X) → i < length xs → x ≡ slice_index_or xs i x → take (i + 1) xs ≡ take i xs ++ x ∷ []
one_more xs i x lt at = take_more xs i x lt ∙ ap (λ y. take i xs ++ y ∷ []) (sym at)

-- what it gives stands behind what the others gave, if it gives anything
pub filter_mapped_more : {X Y : Type 0} (f : X → Option Y) (xs : List X) (i : ℕ) (x : X) (first before after : List Y) (o : Option Y)
    → i < length xs → x ≡ slice_index_or xs i x → before ≡ first ++ filter_map f (take i xs) → o ≡ f x → after ≡ before ++ cons_option o []
    → after ≡ first ++ filter_map f (take (i + 1) xs)
filter_mapped_more f xs i x first before after o lt at so_far gives put =
    put ∙ ap (λ l. l ++ cons_option o []) so_far ∙ append_assoc first (filter_map f (take i xs)) (cons_option o [])
    ∙ ap (λ l. first ++ l) (ap (λ p. filter_map f (take i xs) ++ cons_option p []) gives
    ∙ sym (ap (filter_map f) (one_more xs i x lt at) ∙ filter_map-append f (take i xs) (x ∷ [])))

-- its piece stands behind those of the others
pub flat_mapped_more : {X A : Type 0} (f : X → List A) (xs : List X) (i : ℕ) (x : X) (first before after : List A) → i < length xs
    → x ≡ slice_index_or xs i x → before ≡ first ++ flat_map f (take i xs) → after ≡ before ++ f x → after ≡ first ++ flat_map f (take (i + 1) xs)
flat_mapped_more f xs i x first before after lt at so_far put =
    put ∙ ap (λ l. l ++ f x) so_far ∙ append_assoc first (flat_map f (take i xs)) (f x)
    ∙ ap (λ l. first ++ l) (ap (λ l. flat_map f (take i xs) ++ l) (sym (append-nil (f x)))
    ∙ sym (flat_map-append f (take i xs) (x ∷ [])) ∙ ap (flat_map f) (sym (one_more xs i x lt at)))
