-- Lists that are made from ranges of numbers.
use Rattle.std.proofs.Common.{◌≡◌, ◌<◌, Bool, true, false, cond, ℕ, zero, suc, ◌+◌, List, [], ◌∷◌, ◌++◌, Some, map}
use Rattle.std.proofs.Common.{length, refl, subst, append_assoc, append-nil, sym, ap, ◌∙◌, arith}
use Rattle.std.specs.Prelude.{slice_get}
use Rattle.std.specs.List.{flat_map, filter, range_with_len, AllByRecursion}
use Rattle.lab_setup.proofs.Lists.{all_append}

module _ {A : Type 0} where
  more : (f : ℕ → List A) (a n : ℕ) → flat_map f (range_with_len a (suc n)) ≡ flat_map f (range_with_len a n) ++ f (a + n)
  more f a zero = let e : a ≡ a + zero = omega arith in append-nil (f a) ∙ ap f e
  more f a (suc n) =
      let e : a + 1 + n ≡ a + suc n = omega arith in
      ap (λ xs. f a ++ xs) (more f (a + 1) n ∙ ap (λ k. flat_map f (range_with_len (a + 1) n) ++ f k) e)
      ∙ sym (append_assoc (f a) (flat_map f (range_with_len (a + 1) n)) (f (a + suc n)))

  -- one number more
  pub one_number_more : (f : ℕ → List A) (n : ℕ) → flat_map f (range_with_len 0 (n + 1)) ≡ flat_map f (range_with_len 0 n) ++ f n
  one_number_more f n =
      let e : n + 1 ≡ suc n = omega arith in
      let index : 0 + n ≡ n = omega arith in
      ap (λ k. flat_map f (range_with_len 0 k)) e ∙ more f 0 n ∙ ap (λ k. flat_map f (range_with_len 0 n) ++ f k) index

  -- each number makes one element
  pub each_one : (f : ℕ → List A) (g : ℕ → A) (a n : ℕ) → ((k : ℕ) → k < a + n → f k ≡ g k ∷ []) → flat_map f (range_with_len a n) ≡ map g (range_with_len a n)
  each_one f g a zero h = refl
  each_one f g a (suc n) h =
      ap (λ xs. xs ++ flat_map f (range_with_len (a + 1) n)) (h a (omega arith))
      ∙ ap (λ xs. g a ∷ xs) (each_one f g (a + 1) n (λ k below. h k (omega (arith, below))))

  pub record IsOne (f : ℕ → List A) (k : ℕ) : Type 0 where
    pub x : A
    pub is : f k ≡ x ∷ []

  one_in : (f : ℕ → List A) (a n k : ℕ) (x : A) → ((j : ℕ) → j < a + n → IsOne f j) → k < n → f (a + k) ≡ x ∷ []
      → slice_get (flat_map f (range_with_len a n)) k ≡ Some x
  one_in f a zero k x h below is = absurd (omega (arith, below))
  one_in f a (suc n) zero x h below is =
      let same : a + zero ≡ a = omega arith in
      ap (λ xs. slice_get (xs ++ flat_map f (range_with_len (a + 1) n)) zero) (ap f (sym same) ∙ is)
  one_in f a (suc n) (suc k) x h below is =
      let same : a + 1 + k ≡ a + suc k = omega arith in
      ap (λ xs. slice_get (xs ++ flat_map f (range_with_len (a + 1) n)) (suc k)) ((h a (omega arith)).is)
      ∙ one_in f (a + 1) n k x (λ j l. h j (omega (arith, l))) (omega (arith, below)) (ap f same ∙ is)

  -- the element that a number makes
  pub one_of : (f : ℕ → List A) (n k : ℕ) (x : A) → ((j : ℕ) → j < n → IsOne f j) → k < n → f k ≡ x ∷ []
      → slice_get (flat_map f (range_with_len 0 n)) k ≡ Some x
  one_of f n k x h below is = let same : 0 + k ≡ k = omega arith in one_in f 0 n k x (λ j l. h j (omega (arith, l))) below (ap f same ∙ is)

  as_many_in : (f : ℕ → List A) (a n : ℕ) → ((j : ℕ) → j < a + n → IsOne f j) → length (flat_map f (range_with_len a n)) ≡ n
  as_many_in f a zero h = refl
  as_many_in f a (suc n) h =
      ap (λ (xs : List A). length (xs ++ flat_map f (range_with_len (a + 1) n))) ((h a (omega arith)).is)
      ∙ ap suc (as_many_in f (a + 1) n (λ j l. h j (omega (arith, l))))

  -- there are as many elements as numbers
  pub as_many : (f : ℕ → List A) (n : ℕ) → ((j : ℕ) → j < n → IsOne f j) → length (flat_map f (range_with_len 0 n)) ≡ n
  as_many f n h = as_many_in f 0 n (λ j l. h j (omega (arith, l)))

-- ---- what holds of all

module _ {A : Type 0} (P : A → Type 0) where
  pub all_left : (xs ys : List A) → AllByRecursion P (xs ++ ys) → AllByRecursion P xs
  all_left [] ys all = tt
  all_left (x ∷ xs) ys all = (all.0, all_left xs ys all.1)

  pub all_right : (xs ys : List A) → AllByRecursion P (xs ++ ys) → AllByRecursion P ys
  all_right [] ys all = all
  all_right (x ∷ xs) ys all = all_right xs ys all.1

  pub all_unmapped : {B : Type 0} (f : B → A) (xs : List B) → AllByRecursion P (map f xs) → AllByRecursion (λ x. P (f x)) xs
  all_unmapped f [] all = tt
  all_unmapped f (x ∷ xs) all = (all.0, all_unmapped f xs all.1)

  -- of what each makes
  pub all_joined : {B : Type 0} (f : B → List A) (xs : List B) → AllByRecursion (λ x. AllByRecursion P (f x)) xs → AllByRecursion P (flat_map f xs)
  all_joined f [] all = tt
  all_joined f (x ∷ xs) all = all_append P (f x) (flat_map f xs) all.0 (all_joined f xs all.1)

  pub all_parts : {B : Type 0} (f : B → List A) (xs : List B) → AllByRecursion P (flat_map f xs) → AllByRecursion (λ x. AllByRecursion P (f x)) xs
  all_parts f [] all = tt
  all_parts f (x ∷ xs) all = (all_left (f x) (flat_map f xs) all, all_parts f xs (all_right (f x) (flat_map f xs) all))

pub all_then : {A : Type 0} (P Q : A → Type 0) → ((x : A) → P x → Q x) → (xs : List A) → AllByRecursion P xs → AllByRecursion Q xs
all_then P Q each [] all = tt
all_then P Q each (x ∷ xs) all = (each x all.0, all_then P Q each xs all.1)

pub all_filtered : {A : Type 0} (P : A → Type 0) (test : A → Bool) (xs : List A) → AllByRecursion P xs → AllByRecursion P (filter test xs)
all_filtered P test [] all = tt
all_filtered P test (x ∷ xs) all = by_test (test x) (all_filtered P test xs all.1) where
  by_test : (t : Bool) → AllByRecursion P (filter test xs) → AllByRecursion P (cond t (x ∷ filter test xs) (filter test xs))
  by_test true rest = (all.0, rest)
  by_test false rest = rest

module _ (P : ℕ → Type 0) where
  range_from : (a n : ℕ) → ((k : ℕ) → k < a + n → P k) → AllByRecursion P (range_with_len a n)
  range_from a zero each = tt
  range_from a (suc n) each = (each a (omega arith), range_from (a + 1) n (λ k below. each k (omega (arith, below))))

  range_has : (a n k : ℕ) → AllByRecursion P (range_with_len a n) → k < n → P (a + k)
  range_has a zero k all below = absurd (omega (arith, below))
  range_has a (suc n) zero all below = let same : a ≡ a + zero = omega arith in subst P same all.0
  range_has a (suc n) (suc k) all below = let same : a + 1 + k ≡ a + suc k = omega arith in subst P same (range_has (a + 1) n k all.1 (omega (arith, below)))

  pub all_numbers : (n : ℕ) → ((k : ℕ) → k < n → P k) → AllByRecursion P (range_with_len 0 n)
  all_numbers n each = range_from 0 n (λ k below. each k (omega (arith, below)))

  pub number_of_all : (n k : ℕ) → AllByRecursion P (range_with_len 0 n) → k < n → P k
  number_of_all n k all below = let same : 0 + k ≡ k = omega arith in subst P same (range_has 0 n k all below)
