-- The refused grafts, one more at a time.
use Rattle.std.proofs.Common.{◌≡◌, ℕ, suc, ◌+◌, ◌<◌, Bool, List, [], ◌∷◌, ◌++◌, length, take, filter, ap, sym, ◌∙◌, append_assoc, slice_index_or, arith}
use Rattle.std.proofs.lemmas.List.{take_more, length-append}
use Rattle.std.proofs.lemmas.Grind.{flat_map-append}
use Rattle.std.proofs.lemmas.List.Elements.{filter-append}
use Rattle.std.specs.List.{flat_map, enumerate_from}

numbered : {X : Type 0} (n : ℕ) (xs ys : List X) → enumerate_from n (xs ++ ys) ≡ enumerate_from n xs ++ enumerate_from (n + length xs) ys
numbered n [] ys =
    let first : n ≡ n + 0 = omega arith in
    ap (λ (k : ℕ). enumerate_from k ys) first
numbered {X} n (x ∷ xs) ys =
    let next : n + 1 + length xs ≡ n + suc (length xs) = omega arith in
    ap (λ (l : List (ℕ × X)). (n, x) ∷ l) (numbered (n + 1) xs ys ∙ ap (λ (k : ℕ). enumerate_from (n + 1) xs ++ enumerate_from k ys) next)

module _ {X : Type 0} (test : X → Bool) (xs : List X) (i : ℕ) (x : X) (lt : i < length xs) (at : x ≡ slice_index_or xs i x) where
  passed : filter test (take (i + 1) xs) ≡ filter test (take i xs) ++ filter test (x ∷ [])
  passed =
      ap (filter test) (take_more xs i x lt ∙ ap (λ (y : X). take i xs ++ y ∷ []) (sym at)) ∙ filter-append test (take i xs) (x ∷ [])

  -- how many they are
  pub count_more : (so_far after : ℕ) → so_far ≡ length (filter test (take i xs)) → after ≡ so_far + length (filter test (x ∷ []))
      → after ≡ length (filter test (take (i + 1) xs))
  count_more so_far after so is =
      is ∙ ap (λ (n : ℕ). n + length (filter test (x ∷ []))) so ∙ sym (length-append (filter test (take i xs)) (filter test (x ∷ [])))
      ∙ ap length (sym passed)

  -- their lines
  pub lines_more : (f : ℕ × X → List ℕ) (number : ℕ) (before so_far after : List ℕ) → number ≡ length (filter test (take i xs))
      → so_far ≡ before ++ flat_map f (enumerate_from 0 (filter test (take i xs)))
      → after ≡ so_far ++ flat_map f (enumerate_from number (filter test (x ∷ [])))
      → after ≡ before ++ flat_map f (enumerate_from 0 (filter test (take (i + 1) xs)))
  lines_more f number before so_far after count so is =
      let kept = filter test (take i xs) in
      let own = filter test (x ∷ []) in
      let first : 0 + length kept ≡ number = omega (arith, count) in
      let all : flat_map f (enumerate_from 0 (filter test (take (i + 1) xs))) ≡ flat_map f (enumerate_from 0 kept) ++ flat_map f (enumerate_from number own) =
      ap (λ (l : List X). flat_map f (enumerate_from 0 l)) passed ∙ ap (flat_map f) (numbered 0 kept own)
      ∙ ap (λ (k : ℕ). flat_map f (enumerate_from 0 kept ++ enumerate_from k own)) first
      ∙ flat_map-append f (enumerate_from 0 kept) (enumerate_from number own) in
      is ∙ ap (λ (l : List ℕ). l ++ flat_map f (enumerate_from number own)) so
      ∙ append_assoc before (flat_map f (enumerate_from 0 kept)) (flat_map f (enumerate_from number own)) ∙ ap (λ (l : List ℕ). before ++ l) (sym all)
