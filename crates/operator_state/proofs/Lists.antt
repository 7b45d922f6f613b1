-- Lists at indices, and members that pass a test.
use Rattle.std.proofs.Common.{◌≡◌, ℕ, zero, suc, ◌<◌, ◌==◌, nat_lt, Bool, true, false, ◌||◌, List, [], ◌∷◌, ◌++◌}
use Rattle.std.proofs.Common.{length, take, drop, get_or, Option, Some, refl, sym, ap, ◌∙◌, subst, inl, inr, arith}
use Rattle.std.specs.Prelude.{◌≢◌, ◌⊎◌, slice_get, slice_set}
use Rattle.std.specs.List.{list_any, AllByRecursion}
use Rattle.std.proofs.lemmas.Bool.Decides.{nat_tests}
use Rattle.std.proofs.lemmas.Option.{slice_get-get_or}

pub by_test : (b : Bool) → (b ≡ true) ⊎ (b ≡ false)
by_test true = inl refl
by_test false = inr refl

pub compare : (m n : ℕ) → (m < n) ⊎ ((m ≡ n) ⊎ (n < m))
compare m n = elim (by_test (nat_lt m n)) [
  | inl e ↦ inl (grind (arith, nat_tests))
  | inr e ↦ elim (by_test (m == n)) [ inl f ↦ inr (inl (grind (arith, nat_tests))) | inr f ↦ inr (inr (grind (arith, nat_tests))) ]
]

-- ---- indices

pub get_set_same : {A : Type 0} (xs : List A) (i : ℕ) (x : A) → i < length xs → slice_get (slice_set xs i x) i ≡ Some x
get_set_same [] i x l = absurd (omega arith)
get_set_same (y ∷ xs) zero x l = refl
get_set_same (y ∷ xs) (suc i) x l = get_set_same xs i x (omega arith)

pub get_set_other : {A : Type 0} (xs : List A) (i j : ℕ) (x : A) → j ≢ i → slice_get (slice_set xs i x) j ≡ slice_get xs j
get_set_other [] i j x ne = refl
get_set_other (y ∷ xs) zero zero x ne = absurd (ne refl)
get_set_other (y ∷ xs) zero (suc j) x ne = refl
get_set_other (y ∷ xs) (suc i) zero x ne = refl
get_set_other (y ∷ xs) (suc i) (suc j) x ne = get_set_other xs i j x (λ e. ne (ap suc e))

pub length_set : {A : Type 0} (xs : List A) (i : ℕ) (x : A) → length (slice_set xs i x) ≡ length xs
length_set [] i x = refl
length_set (y ∷ xs) zero x = refl
length_set (y ∷ xs) (suc i) x = let h : length (slice_set xs i x) ≡ length xs = length_set xs i x in omega arith

-- an index within a list has a member
pub there_is : {A : Type 0} (xs : List A) (i : ℕ) → i < length xs → (x : A) × (slice_get xs i ≡ Some x)
there_is [] i l = absurd (omega arith)
there_is (x ∷ xs) zero l = (x, refl)
there_is (x ∷ xs) (suc i) l = there_is xs i (omega arith)

pub one_member : {A : Type 0} (o : Option A) (x y : A) → o ≡ Some x → o ≡ Some y → x ≡ y
one_member o x y e f = cc

-- what is read at an index, of a list that is read under another name
pub stands_in : {A : Type 0} (read xs : List A) (k : ℕ) (d x : A) → read ≡ xs → k < length xs → get_or read k d ≡ x → slice_get xs k ≡ Some x
stands_in read xs k d x same l e = slice_get-get_or xs k d l ∙ ap Some (ap (λ ys. get_or ys k d) (sym same) ∙ e)

-- what is at an index stands between what is before it and what is behind it
module _ {A : Type 0} where
  pub split_there : (xs : List A) (i : ℕ) (x : A) → slice_get xs i ≡ Some x → xs ≡ take i xs ++ x ∷ drop (suc i) xs
  split_there [] i x e = absurd cc
  split_there (y ∷ xs) zero x e = let same : y ≡ x = cc in ap (λ (z : A). z ∷ xs) same
  split_there (y ∷ xs) (suc i) x e = ap (λ (zs : List A). y ∷ zs) (split_there xs i x e)

  pub before_there : (xs : List A) (i j : ℕ) (x : A) → j < i → slice_get xs j ≡ Some x → slice_get (take i xs) j ≡ Some x
  before_there [] i j x l e = absurd cc
  before_there (y ∷ xs) zero j x l e = absurd (omega (arith, l))
  before_there (y ∷ xs) (suc i) zero x l e = e
  before_there (y ∷ xs) (suc i) (suc j) x l e = before_there xs i j x (omega (arith, l)) e

-- ---- all, and some

module _ {A : Type 0} where
  pub all_append_left : (P : A → Type 0) (xs ys : List A) → AllByRecursion P (xs ++ ys) → AllByRecursion P xs
  all_append_left P [] ys all = tt
  all_append_left P (x ∷ xs) ys all = (all.0, all_append_left P xs ys all.1)

  pub all_append_right : (P : A → Type 0) (xs ys : List A) → AllByRecursion P (xs ++ ys) → AllByRecursion P ys
  all_append_right P [] ys all = all
  all_append_right P (x ∷ xs) ys all = all_append_right P xs ys all.1

  pub all_append : (P : A → Type 0) (xs ys : List A) → AllByRecursion P xs → AllByRecursion P ys → AllByRecursion P (xs ++ ys)
  all_append P [] ys all more = more
  all_append P (x ∷ xs) ys all more = (all.0, all_append P xs ys all.1 more)

  pub all_map : (P Q : A → Type 0) (xs : List A) → ((x : A) → P x → Q x) → AllByRecursion P xs → AllByRecursion Q xs
  all_map P Q [] more all = tt
  all_map P Q (x ∷ xs) more all = (more x all.0, all_map P Q xs more all.1)

  pub all_at : (P : A → Type 0) (xs : List A) (i : ℕ) (x : A) → AllByRecursion P xs → slice_get xs i ≡ Some x → P x
  all_at P [] i x all e = absurd cc
  all_at P (y ∷ xs) zero x all e = let same : y ≡ x = cc in subst P same all.0
  all_at P (y ∷ xs) (suc i) x all e = all_at P xs i x all.1 e

  -- what holds of the member at each index before one holds of all those before it
  pub all_before : (P : A → Type 0) (xs : List A) (i : ℕ) → ((j : ℕ) (x : A) → j < i → slice_get xs j ≡ Some x → P x) → AllByRecursion P (take i xs)
  all_before P [] zero each = tt
  all_before P [] (suc i) each = tt
  all_before P (y ∷ xs) zero each = tt
  all_before P (y ∷ xs) (suc i) each = (each 0 y (omega arith) refl, all_before P xs i (λ j x l e. each (suc j) x (omega (arith, l)) e))

  module _ (test : A → Bool) where
    -- one that passes has an index
    pub passes_at : (xs : List A) → list_any test xs ≡ true → (i : ℕ) × (x : A) × (slice_get xs i ≡ Some x) × (test x ≡ true)
    passes_at [] e = absurd cc
    passes_at (x ∷ xs) e = elim (by_test (test x)) [
      | inl f ↦ (0, x, refl, f)
      | inr f ↦ let r = passes_at xs (sym (ap (λ b. b || list_any test xs) f) ∙ e) in (suc r.0, r.1, r.2, r.3)
    ]

    -- what holds of all holds of one that passes
    pub one_passes : (P : A → Type 0) (xs : List A) → AllByRecursion P xs → list_any test xs ≡ true → (x : A) × (test x ≡ true) × P x
    one_passes P [] all e = absurd cc
    one_passes P (x ∷ xs) all e = elim (by_test (test x)) [
      | inl f ↦ (x, f, all.0)
      | inr f ↦ one_passes P xs all.1 (sym (ap (λ b. b || list_any test xs) f) ∙ e)
    ]

    pub none_passes : (xs : List A) → AllByRecursion (λ x. test x ≡ false) xs → list_any test xs ≡ false
    none_passes [] all = refl
    none_passes (x ∷ xs) all = ap (λ b. b || list_any test xs) all.0 ∙ none_passes xs all.1

    -- one that passes, of a list with a member in its midst, stands before it, is it, or stands after it
    pub any_about : (xs : List A) (x : A) (ys : List A) → list_any test (xs ++ x ∷ ys) ≡ true
        → (list_any test xs ≡ true) ⊎ ((test x ≡ true) ⊎ (list_any test ys ≡ true))
    any_about [] x ys e = elim (by_test (test x)) [ inl f ↦ inr (inl f) | inr f ↦ inr (inr (sym (ap (λ b. b || list_any test ys) f) ∙ e)) ]
    any_about (z ∷ xs) x ys e = elim (by_test (test z)) [
      | inl f ↦ inl (ap (λ b. b || list_any test xs) f)
      | inr f ↦ elim (any_about xs x ys (sym (ap (λ b. b || list_any test (xs ++ x ∷ ys)) f) ∙ e)) [
        | inl before ↦ inl (ap (λ b. b || list_any test xs) f ∙ before)
        | inr other ↦ inr other
      ]
    ]

    pub any_here : (xs : List A) (x : A) (ys : List A) → test x ≡ true → list_any test (xs ++ x ∷ ys) ≡ true
    any_here [] x ys e = ap (λ b. b || list_any test ys) e
    any_here (z ∷ xs) x ys e = elim (by_test (test z)) [
      | inl f ↦ ap (λ b. b || list_any test (xs ++ x ∷ ys)) f
      | inr f ↦ ap (λ b. b || list_any test (xs ++ x ∷ ys)) f ∙ any_here xs x ys e
    ]

    -- a member that doesn't pass may be left out
    pub any_without : (xs : List A) (x : A) (ys : List A) → test x ≡ false → list_any test (xs ++ x ∷ ys) ≡ list_any test (xs ++ ys)
    any_without [] x ys e = ap (λ b. b || list_any test ys) e
    any_without (z ∷ xs) x ys e = ap (λ b. test z || b) (any_without xs x ys e)
