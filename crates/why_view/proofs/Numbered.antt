-- Numbered elements in a loop, one further.
use Rattle.std.proofs.Common.{◌≡◌, ℕ, ◌+◌, ◌<◌, List, ◌++◌, length, take, ap, sym, ◌∙◌, append_assoc, slice_index_or}
use Rattle.std.specs.List.{flat_map, enumerate_from}
use Rattle.lab_input.proofs.Numbered.{flat_map_numbered}

-- the piece of a numbered element stands behind those of the others
pub numbered_more : {X A : Type 0} (f : ℕ × X → List A) (xs : List X) (i : ℕ) (x : X) (first before after : List A) → i < length xs
    → x ≡ slice_index_or xs i x → before ≡ first ++ flat_map f (enumerate_from 0 (take i xs)) → after ≡ before ++ f (i, x)
    → after ≡ first ++ flat_map f (enumerate_from 0 (take (i + 1) xs))
numbered_more f xs i x first before after lt at so_far put =
    put ∙ ap (λ l. l ++ f (i, x)) so_far ∙ append_assoc first (flat_map f (enumerate_from 0 (take i xs))) (f (i, x))
    ∙ ap (λ l. first ++ l) (sym (flat_map_numbered f xs i x lt at))
