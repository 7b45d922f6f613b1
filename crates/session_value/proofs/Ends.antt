-- What a session has read of what its endpoint received.
use Rattle.std.proofs.Common.{◌≡◌, ℕ, ◌+◌, ◌-◌, ◌≤◌, List, ◌++◌, length, take, drop, sym, ap, ◌∙◌, arith, length-append}
use Rattle.std.proofs.lemmas.List.{length-drop, length-take, take-append-drop, take-take}
use Rattle.std.proofs.Math.Seq.{take-add, take-append_seam}

-- bytes at the front of what is unread are read
pub read_more : (n : ℕ) (xs bytes rest : List ℕ) → drop n xs ≡ bytes ++ rest → take (n + length bytes) xs ≡ take n xs ++ bytes
read_more n xs bytes rest front =
    take-add n (length bytes) xs
    ∙ ap (λ (ys : List ℕ). take n xs ++ take (length bytes) ys) front
    ∙ ap (λ (ys : List ℕ). take n xs ++ ys) (take-append_seam bytes rest)

pub read_within : (n : ℕ) (xs bytes rest : List ℕ) → n ≤ length xs → drop n xs ≡ bytes ++ rest → n + length bytes ≤ length xs
read_within n xs bytes rest within front =
    let size : length xs - n ≡ length bytes + length rest = sym (length-drop n xs) ∙ ap (λ (ys : List ℕ). length ys) front ∙ length-append bytes rest in
    omega (arith, size, within)

-- what was read stays, whatever segment arrives
pub first_stay : (n : ℕ) (xs ys : List ℕ) → n ≤ length xs → xs ≡ take (length xs) ys → take n ys ≡ take n xs
first_stay n xs ys within stays = sym (ap (take n) stays ∙ take-take n (length xs) ys within)

pub front_length : (n : ℕ) (xs ys : List ℕ) → n ≤ length xs → take n xs ≡ ys → n ≡ length ys
front_length n xs ys within is = omega (arith, within, length-take n xs, ap (λ (zs : List ℕ). length zs) is)

pub front_rest : (n : ℕ) (xs ys : List ℕ) → take n xs ≡ ys → xs ≡ ys ++ drop n xs
front_rest n xs ys is = sym (take-append-drop n xs) ∙ ap (λ (zs : List ℕ). zs ++ drop n xs) is
