-- Pieces of a text, one behind another.
use Rattle.std.proofs.Common.{◌≡◌, ℕ, ◌+◌, ◌<◌, List, ◌++◌, length, get_or, take, ap, ◌∙◌, append_assoc}
use Rattle.std.specs.List.{flat_map}
use Rattle.std.proofs.lemmas.List.{get_or_default}
use Rattle.why_view.proofs.Further.{flat_mapped_more}

pub behind : {A : Type 0} (t a b : List A) {u v : List A} → u ≡ t ++ a → v ≡ u ++ b → v ≡ t ++ (a ++ b)
behind t a b first second = second ∙ ap (λ l. l ++ b) first ∙ append_assoc t a b

-- the same piece in other words
pub worded : {A : Type 0} (t : List A) {a b u : List A} → a ≡ b → u ≡ t ++ a → u ≡ t ++ b
worded t same put = put ∙ ap (λ l. t ++ l) same

-- the piece of one element more stands behind those of the others
pub piece_more : {X A : Type 0} (f : X → List A) (xs : List X) (i : ℕ) (d : X) (first before after : List A) → i < length xs
    → before ≡ first ++ flat_map f (take i xs) → after ≡ before ++ f (get_or xs i d) → after ≡ first ++ flat_map f (take (i + 1) xs)
piece_more f xs i d first before after lt so_far put =
    flat_mapped_more f xs i (get_or xs i d) first before after lt (get_or_default xs i d (get_or xs i d) lt) so_far put
