-- A list in rising order is what a stable sort makes of it.
use Rattle.std.proofs.Common.{◌≡◌, ◌≢◌, ℕ, suc, ◌<◌, ◌≤◌, Bool, true, false, cond, ltb, List, [], ◌∷◌, refl, sym, ap, ◌∙◌, arith}
use Rattle.std.specs.List.{AllByRecursion, filter}
use Rattle.std.specs.List.Sorted.{IsNonDecreasingBy, ties}
use Rattle.std.specs.Ordering.{nat_cmp, is_lt}
use Rattle.std.proofs.lemmas.Bool.{ltb-true, ltb-false}
use Rattle.std.proofs.lemmas.Bool.Decides.{nat_tests}
use Rattle.std.proofs.lemmas.List.Elements.{recursion_from_All}
use Rattle.bgp_types.specs.Rising.{insert_by, in_rising}

first_same : {A : Type 0} (x y : A) (xs ys : List A) → x ∷ xs ≡ y ∷ ys → x ≡ y
first_same x y xs ys e = cc

rest_same : {A : Type 0} (x y : A) (xs ys : List A) → x ∷ xs ≡ y ∷ ys → xs ≡ ys
rest_same x y xs ys e = cc

module _ {A : Type 0} (key : A → ℕ) where
  -- each member is no higher than all after it
  abbrev IsSorted : List A → Type 0
  IsSorted [] = Unit {0}
  IsSorted (x ∷ xs) = AllByRecursion (λ y. key x ≤ key y) xs × IsSorted xs

  by_index : (xs : List A) → IsNonDecreasingBy key xs → IsSorted xs
  by_index [] rises = tt
  by_index (x ∷ xs) rises = (
    recursion_from_All (λ y. key x ≤ key y) xs (λ j d below. rises 0 (suc j) d (omega arith) (omega (arith, below))),
    by_index xs (λ i j d le below. rises (suc i) (suc j) d (omega (arith, le)) (omega (arith, below))),
  )

  -- ---- members of one key

  abbrev tied : A → A → Bool
  tied = ties (λ x y. is_lt (nat_cmp (key x) (key y)))

  same_key : (x y : A) → tied x y ≡ true → key x ≡ key y
  same_key x y e = grind (arith, nat_tests)

  same_tied : (x y : A) → key x ≡ key y → tied x y ≡ true
  same_tied x y e = grind (arith, nat_tests)

  apart : (x y : A) → key x ≢ key y → tied x y ≡ false
  apart x y n = grind (arith, nat_tests)

  -- ---- an insert keeps the members of each key as they are

  both_orders : (x a y : A) (s t : Bool) (rest zs : List A) → rest ≡ cond s (a ∷ zs) zs → (s ≡ true → t ≡ true → ⊥)
      → cond t (y ∷ rest) rest ≡ cond s (a ∷ cond t (y ∷ zs) zs) (cond t (y ∷ zs) zs)
  both_orders x a y true true rest zs e n = absurd (n refl refl)
  both_orders x a y true false rest zs e n = e
  both_orders x a y false true rest zs e n = ap (λ (l : List A). y ∷ l) e
  both_orders x a y false false rest zs e n = e

  insert_ties : (x a : A) (xs : List A) → filter (tied x) (insert_by key a xs) ≡ filter (tied x) (a ∷ xs)
  insert_ties x a [] = refl
  insert_ties x a (y ∷ ys) = by_test (insert_ties x a ys) (ltb (key y) (key a)) refl where
    by_test : filter (tied x) (insert_by key a ys) ≡ filter (tied x) (a ∷ ys) → (t : Bool) → ltb (key y) (key a) ≡ t
        → filter (tied x) (cond t (y ∷ insert_by key a ys) (a ∷ y ∷ ys)) ≡ filter (tied x) (a ∷ y ∷ ys)
    by_test rest true e = both_orders x a y (tied x a) (tied x y) (filter (tied x) (insert_by key a ys)) (filter (tied x) ys) rest
        (λ s t. let lower = ltb-true (key y) (key a) e in let one = same_key x a s in let other = same_key x y t in absurd (omega (arith, lower, one, other)))
    by_test rest false e = refl

  rising_ties : (x : A) (xs : List A) → filter (tied x) (in_rising key xs) ≡ filter (tied x) xs
  rising_ties x [] = refl
  rising_ties x (a ∷ xs) = insert_ties x a (in_rising key xs) ∙ ap (λ (l : List A). cond (tied x a) (a ∷ l) l) (rising_ties x xs)

  -- ---- lists in order with the same members of each key

  no_ties : (y : A) (low : ℕ) (xs : List A) → AllByRecursion (λ z. low ≤ key z) xs → key y < low → filter (tied y) xs ≡ []
  no_ties y low [] all less = refl
  no_ties y low (x ∷ xs) all less = rw (apart y x (λ e. omega (arith, e, less, all.0))) (no_ties y low xs all.1 less)

  -- the first of a list is no higher than one that ties with a member
  first_low : (x y : A) (xs ys : List A) → AllByRecursion (λ z. key x ≤ key z) xs → filter (tied y) (x ∷ xs) ≡ filter (tied y) (y ∷ ys) → key x ≤ key y
  first_low x y xs ys all e = by_test (ltb (key y) (key x)) refl where
    by_test : (t : Bool) → ltb (key y) (key x) ≡ t → key x ≤ key y
    by_test false f = ltb-false (key y) (key x) f
    by_test true f =
        let none : [] ≡ y ∷ filter (tied y) ys = sym (no_ties y (key x) (x ∷ xs) (omega arith, all) (ltb-true (key y) (key x) f))
        ∙ (e ∙ ap (λ t. cond t (y ∷ filter (tied y) ys) (filter (tied y) ys)) (same_tied y y refl)) in
        absurd cc

  same_lists : (xs ys : List A) → IsSorted xs → IsSorted ys → ((x : A) → filter (tied x) xs ≡ filter (tied x) ys) → xs ≡ ys
  same_lists [] [] r s h = refl
  same_lists [] (y ∷ ys) r s h =
      let none : [] ≡ y ∷ filter (tied y) ys = h y ∙ ap (λ t. cond t (y ∷ filter (tied y) ys) (filter (tied y) ys)) (same_tied y y refl) in absurd cc
  same_lists (x ∷ xs) [] r s h = let none : [] ≡ x ∷ filter (tied x) xs =
      sym (h x) ∙ ap (λ t. cond t (x ∷ filter (tied x) xs) (filter (tied x) xs)) (same_tied x x refl) in absurd cc
  same_lists (x ∷ xs) (y ∷ ys) r s h = ap (λ z. z ∷ xs) first ∙ ap (λ l. y ∷ l) (same_lists xs ys r.1 s.1 rest) where
    alike : key x ≡ key y
    alike = let low = first_low x y xs ys r.0 (h y) in let high = first_low y x ys xs s.0 (sym (h x)) in omega (arith, low, high)

    first : x ≡ y
    first = first_same x y (filter (tied x) xs) (filter (tied x) ys)
        (ap (λ t. cond t (x ∷ filter (tied x) xs) (filter (tied x) xs)) (sym (same_tied x x refl))
        ∙ (h x ∙ ap (λ t. cond t (y ∷ filter (tied x) ys) (filter (tied x) ys)) (same_tied x y alike)))

    drop_first : (t : Bool) (ls ms : List A) → cond t (x ∷ ls) ls ≡ cond t (y ∷ ms) ms → ls ≡ ms
    drop_first true ls ms e = rest_same x y ls ms e
    drop_first false ls ms e = e

    rest : (z : A) → filter (tied z) xs ≡ filter (tied z) ys
    rest z = drop_first (tied z x) (filter (tied z) xs) (filter (tied z) ys)
        (h z ∙ ap (λ w. cond (tied z w) (y ∷ filter (tied z) ys) (filter (tied z) ys)) (sym first))

  -- ---- the list in rising order

  all_from : (low high : ℕ) (xs : List A) → low ≤ high → AllByRecursion (λ z. high ≤ key z) xs → AllByRecursion (λ z. low ≤ key z) xs
  all_from low high [] le all = tt
  all_from low high (x ∷ xs) le all = (omega (arith, le, all.0), all_from low high xs le all.1)

  insert_from : (low : ℕ) (x : A) (xs : List A) → low ≤ key x → AllByRecursion (λ z. low ≤ key z) xs → AllByRecursion (λ z. low ≤ key z) (insert_by key x xs)
  insert_from low x [] le all = (le, tt)
  insert_from low x (y ∷ ys) le all = by_test (insert_from low x ys le all.1) (ltb (key y) (key x)) where
    by_test : AllByRecursion (λ z. low ≤ key z) (insert_by key x ys) → (t : Bool)
        → AllByRecursion (λ z. low ≤ key z) (cond t (y ∷ insert_by key x ys) (x ∷ y ∷ ys))
    by_test rest true = (all.0, rest)
    by_test rest false = (le, all)

  insert_sorted : (x : A) (xs : List A) → IsSorted xs → IsSorted (insert_by key x xs)
  insert_sorted x [] s = (tt, tt)
  insert_sorted x (y ∷ ys) s = by_test (insert_sorted x ys s.1) (ltb (key y) (key x)) refl where
    by_test : IsSorted (insert_by key x ys) → (t : Bool) → ltb (key y) (key x) ≡ t → IsSorted (cond t (y ∷ insert_by key x ys) (x ∷ y ∷ ys))
    by_test rest true e = (insert_from (key y) x ys (omega (arith, ltb-true (key y) (key x) e)) s.0, rest)
    by_test rest false e = let le = ltb-false (key y) (key x) e in ((le, all_from (key x) (key y) ys le s.0), s)

  rising_sorted : (xs : List A) → IsSorted (in_rising key xs)
  rising_sorted [] = tt
  rising_sorted (x ∷ xs) = insert_sorted x (in_rising key xs) (rising_sorted xs)

  -- what a stable sort ensures
  pub sort_rises : (xs ys : List A) → IsNonDecreasingBy key ys → ((x : A) → filter (tied x) ys ≡ filter (tied x) xs) → ys ≡ in_rising key xs
  sort_rises xs ys rises stable = same_lists ys (in_rising key xs) (by_index ys rises) (rising_sorted xs) (λ x. stable x ∙ sym (rising_ties x xs))
