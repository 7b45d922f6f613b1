-- Lists that are made from numbered elements.
use Rattle.std.proofs.Common.{◌≡◌, ℕ, zero, suc, ◌+◌, ◌<◌, List, [], ◌∷◌, ◌++◌, length, take, ap, sym, ◌∙◌, append_assoc, append-nil, slice_index_or, arith}
use Rattle.std.specs.List.{flat_map, enumerate_from}

numbered : {X A : Type 0} (f : ℕ × X → List A) (n : ℕ) (xs : List X) (i : ℕ) (x : X) → i < length xs → x ≡ slice_index_or xs i x
    → flat_map f (enumerate_from n (take (suc i) xs)) ≡ flat_map f (enumerate_from n (take i xs)) ++ f (n + i, x)
numbered f n [] i x lt at = absurd (omega (arith, lt))
numbered f n (y ∷ xs) zero x lt at =
    let first : n ≡ n + 0 = omega arith in
    append-nil (f (n, y)) ∙ ap (λ z. f (n, z)) (sym at) ∙ ap (λ k. f (k, x)) first
numbered f n (y ∷ xs) (suc i) x lt at =
    let index : n + 1 + i ≡ n + suc i = omega arith in
    ap (λ l. f (n, y) ++ l) (numbered f (n + 1) xs i x (omega (arith, lt)) at ∙ ap (λ k. flat_map f (enumerate_from (n + 1) (take i xs)) ++ f (k, x)) index)
    ∙ sym (append_assoc (f (n, y)) (flat_map f (enumerate_from (n + 1) (take i xs))) (f (n + suc i, x)))

-- one element further, its own piece stands behind the others'
pub flat_map_numbered : {X A : Type 0} (f : ℕ × X → List A) (xs : List X) (i : ℕ) (x : X) → i < length xs → x ≡ slice_index_or xs i x
    → flat_map f (enumerate_from 0 (take (i + 1) xs)) ≡ flat_map f (enumerate_from 0 (take i xs)) ++ f (i, x)
flat_map_numbered f xs i x lt at =
    let more : i + 1 ≡ suc i = omega arith in
    let index : 0 + i ≡ i = omega arith in
    ap (λ k. flat_map f (enumerate_from 0 (take k xs))) more ∙ numbered f 0 xs i x lt at ∙ ap (λ k. flat_map f (enumerate_from 0 (take i xs)) ++ f (k, x)) index
