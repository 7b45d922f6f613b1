-- Lists that are made from ranges of numbers.
use Rattle.std.proofs.Common.{◌≡◌, ℕ, zero, suc, ◌+◌, ◌<◌, List, ◌∷◌, ◌++◌, length, map, set, get_or, refl, sym, ap, ◌∙◌, inl, inr, subst}
use Rattle.std.proofs.Common.{append_assoc, length-append, length-set, arith}
use Rattle.std.specs.List.{flat_map, range_with_len}
use Rattle.std.proofs.lemmas.Bool.{cases_eq}
use Rattle.std.proofs.lemmas.List.{append-nil, get_or_at, get_or-set_same, get_or-set_other}
use Rattle.std.proofs.lemmas.List.FromFn.{length-map-range_with_len, get_or-map-range_with_len, fill_by_all}

module _ {A : Type 0} (f : ℕ → List A) where
  more : (a n : ℕ) → flat_map f (range_with_len a (suc n)) ≡ flat_map f (range_with_len a n) ++ f (a + n)
  more a zero = let e : a ≡ a + zero = omega arith in append-nil (f a) ∙ ap f e
  more a (suc n) =
      let e : a + 1 + n ≡ a + suc n = omega arith in
      ap (λ xs. f a ++ xs) (more (a + 1) n ∙ ap (λ k. flat_map f (range_with_len (a + 1) n) ++ f k) e)
      ∙ sym (append_assoc (f a) (flat_map f (range_with_len (a + 1) n)) (f (a + suc n)))

  -- one number more
  pub one_number_more : (n : ℕ) → flat_map f (range_with_len 0 (n + 1)) ≡ flat_map f (range_with_len 0 n) ++ f n
  one_number_more n =
      let e : n + 1 ≡ suc n = omega arith in
      let index : 0 + n ≡ n = omega arith in
      ap (λ k. flat_map f (range_with_len 0 k)) e ∙ more 0 n ∙ ap (λ k. flat_map f (range_with_len 0 n) ++ f k) index

-- a list by a function of places, of which one place is set, is one by another function that gives the same at the other places
module _ {A : Type 0} (f g : ℕ → A) (count : ℕ) (xs : List A) (is : xs ≡ map f (range_with_len 0 count)) where
  len : length xs ≡ count
  len = ap length is ∙ length-map-range_with_len f 0 count

  pub at : (k : ℕ) (d : A) → k < count → get_or xs k d ≡ f k
  at k d below = ap (λ (ys : List A). get_or ys k d) is ∙ get_or-map-range_with_len f 0 count k k d below (omega arith)

  pub one_set : (p : ℕ) → p < count → ((k : ℕ) → (p ≡ k → ⊥) → f k ≡ g k) → set xs p (g p) ≡ map g (range_with_len 0 count)
  one_set p below same = fill_by_all g (set xs p (g p)) count (g p) (length-set xs p (g p) ∙ len) (λ k low. elim (cases_eq p k) [
    | inl e ↦
        let inside : p < length xs = omega (arith, below, len) in
        subst (λ j. get_or (set xs p (g p)) j (g p) ≡ g j) e (get_or-set_same xs p (g p) (g p) inside)
    | inr ne ↦ get_or-set_other xs p k (g p) (g p) (λ e. ne (sym e)) ∙ at k (g p) low ∙ same k ne
  ])

  pub none_set : ((k : ℕ) → k < count → f k ≡ g k) → xs ≡ map g (range_with_len 0 count)
  none_set same = fill_by_all g xs count (g 0) len (λ k low. at k (g 0) low ∙ same k low)

-- the next element of such a list, behind others
pub next_is : {A : Type 0} (f : ℕ → A) (count : ℕ) (xs before rest : List A) (x : A) → xs ≡ map f (range_with_len 0 count) → before ++ x ∷ rest ≡ xs
    → (length before < count) × (x ≡ f (length before))
next_is f count xs before rest x is parts =
    let size : length (before ++ x ∷ rest) ≡ length before + suc (length rest) = length-append before (x ∷ rest) in
    let below : length before < count = omega (arith, size, ap length parts, ap length is, length-map-range_with_len f 0 count) in (
      below,
      sym (get_or_at before x rest x (length before) refl) ∙ ap (λ ys. get_or ys (length before) x) parts
          ∙ at f f count xs is (length before) x below,
    )

-- where nothing is left, there are as many as there were
pub all_counted : {A : Type 0} (xs before rest : List A) → before ++ rest ≡ xs → length rest ≡ 0 → length before ≡ length xs
all_counted xs before rest parts none = omega (arith, none, ap length parts, length-append before rest)
