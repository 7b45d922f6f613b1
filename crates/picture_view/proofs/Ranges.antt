-- Numbers from 0 on, one more at a time.
use Rattle.std.proofs.Common.{◌≡◌, ℕ, ◌+◌, Bool, List, [], ◌∷◌, ◌++◌, zero, suc, ap, ◌∙◌, sym, filter, map, arith}
use Rattle.std.specs.List.{flat_map, range_with_len}
use Rattle.std.proofs.lemmas.List.FromFn.{map-range_with_len_more}
use Rattle.std.proofs.lemmas.List.{flat_map_more}
use Rattle.std.proofs.lemmas.List.Elements.{filter-append}

counted : (a n : ℕ) → range_with_len a (suc n) ≡ range_with_len a n ++ (a + n) ∷ []
counted a zero =
    let first : a ≡ a + 0 = omega arith in
    ap (λ (k : ℕ). k ∷ []) first
counted a (suc n) =
    let next : a + 1 + n ≡ a + suc n = omega arith in
    ap (λ (l : List ℕ). a ∷ l) (counted (a + 1) n ∙ ap (λ (k : ℕ). range_with_len (a + 1) n ++ k ∷ []) next)

pub one_more : (n : ℕ) → range_with_len 0 (n + 1) ≡ range_with_len 0 n ++ n ∷ []
one_more n =
    let more : n + 1 ≡ suc n = omega arith in
    let last : 0 + n ≡ n = omega arith in
    ap (range_with_len 0) more ∙ counted 0 n ∙ ap (λ (k : ℕ). range_with_len 0 n ++ k ∷ []) last

-- those that pass a test
pub filtered_more : (test : ℕ → Bool) (n : ℕ) → filter test (range_with_len 0 (n + 1)) ≡ filter test (range_with_len 0 n) ++ filter test (n ∷ [])
filtered_more test n = ap (filter test) (one_more n) ∙ filter-append test (range_with_len 0 n) (n ∷ [])

-- the texts of all so far, and of one more
pub listed_more : (f : ℕ → List ℕ) (n : ℕ) (before so_far after : List ℕ) → so_far ≡ before ++ flat_map f (range_with_len 0 n)
    → after ≡ so_far ++ f n → after ≡ before ++ flat_map f (range_with_len 0 (n + 1))
listed_more f n before so_far after so is =
    is ∙ ap (λ (l : List ℕ). l ++ f n) so ∙ flat_map_more f before (range_with_len 0 n) n ∙ ap (λ (ns : List ℕ). before ++ flat_map f ns) (sym (one_more n))

-- what all so far give, and one more
pub mapped_more : {X : Type 0} (f : ℕ → X) (n : ℕ) (x : X) (so_far after : List X) → so_far ≡ map f (range_with_len 0 n) → x ≡ f n
    → after ≡ so_far ++ x ∷ [] → after ≡ map f (range_with_len 0 (n + 1))
mapped_more {X} f n x so_far after so at is =
    let last : 0 + n ≡ n = omega arith in
    is ∙ ap (λ (l : List X). l ++ x ∷ []) so ∙ ap (λ (y : X). map f (range_with_len 0 n) ++ y ∷ []) at ∙ sym (map-range_with_len_more f 0 n n last)
