-- What holds of all items of lists that are made of lists.
use Rattle.std.proofs.Common.{◌≡◌, ℕ, zero, suc, ◌+◌, ◌<◌, Bool, true, false, cond, List, [], ◌∷◌, ◌++◌}
use Rattle.std.proofs.Common.{length, map, Option, Some, None, refl, ap, ◌∙◌, subst, arith}
use Rattle.std.specs.Prelude.{slice_get, IfSome, filter, ◌&&◌, ◌||◌}
use Rattle.std.specs.List.{AllByRecursion, cons_option, filter_map, flat_map, enumerate_from, list_all, list_any, range_with_len}
use Rattle.std.proofs.lemmas.Bool.{false≢true}
use Rattle.std.proofs.lemmas.Option.{same_Some}
use Rattle.graft_laws.proofs.Lists.{all_front, all_back, all_join}

pub all_flat : {A B : Type 0} (P : B → Type 0) (f : A → List B) (xs : List A) → AllByRecursion P (flat_map f xs)
    → AllByRecursion (λ x. AllByRecursion P (f x)) xs
all_flat P f [] all = tt
all_flat P f (x ∷ xs) all = (all_front P (f x) (flat_map f xs) all, all_flat P f xs (all_back P (f x) (flat_map f xs) all))

pub flat_all : {A B : Type 0} (P : B → Type 0) (f : A → List B) (xs : List A) → AllByRecursion (λ x. AllByRecursion P (f x)) xs
    → AllByRecursion P (flat_map f xs)
flat_all P f [] all = tt
flat_all P f (x ∷ xs) all = all_join P (f x) (flat_map f xs) all.0 (flat_all P f xs all.1)

pub all_mapped : {A B : Type 0} (P : B → Type 0) (f : A → B) (xs : List A) → AllByRecursion P (map f xs) → AllByRecursion (λ x. P (f x)) xs
all_mapped P f [] all = tt
all_mapped P f (x ∷ xs) all = (all.0, all_mapped P f xs all.1)

cons_parts : {B : Type 0} (P : B → Type 0) (o : Option B) (rest : List B) → AllByRecursion P (cons_option o rest) → IfSome o P × AllByRecursion P rest
cons_parts P None rest all = (tt, all)
cons_parts P (Some y) rest all = all

pub all_given : {A B : Type 0} (P : B → Type 0) (f : A → Option B) (xs : List A) → AllByRecursion P (filter_map f xs) → AllByRecursion (λ x. IfSome (f x) P) xs
all_given P f [] all = tt
all_given P f (x ∷ xs) all = let parts = cons_parts P (f x) (filter_map f xs) all in (parts.0, all_given P f xs parts.1)

cons_whole : {B : Type 0} (P : B → Type 0) (o : Option B) (rest : List B) → IfSome o P → AllByRecursion P rest → AllByRecursion P (cons_option o rest)
cons_whole P None rest some all = all
cons_whole P (Some y) rest some all = (some, all)

pub given_all : {A B : Type 0} (P : B → Type 0) (f : A → Option B) (xs : List A) → AllByRecursion (λ x. IfSome (f x) P) xs → AllByRecursion P (filter_map f xs)
given_all P f [] all = tt
given_all P f (x ∷ xs) all = cons_whole P (f x) (filter_map f xs) all.0 (given_all P f xs all.1)

-- ---- tests

pub both : (a b : Bool) → (a && b) ≡ true → (a ≡ true) × (b ≡ true)
both true true e = (refl, refl)
both true false e = absurd (false≢true e)
both false b e = absurd (false≢true e)

pub all_true : {A : Type 0} (test : A → Bool) (xs : List A) → list_all test xs ≡ true → AllByRecursion (λ x. test x ≡ true) xs
all_true test [] e = tt
all_true test (x ∷ xs) e = let parts = both (test x) (list_all test xs) e in (parts.0, all_true test xs parts.1)

-- ---- by number

pub slice_all : {A : Type 0} (P : A → Type 0) (xs : List A) (n : ℕ) (x : A) → AllByRecursion P xs → slice_get xs n ≡ Some x → P x
slice_all P [] n x all e = absurd cc
slice_all P (y ∷ ys) zero x all e = subst P (same_Some y x e) all.0
slice_all P (y ∷ ys) (suc n) x all e = slice_all P ys n x all.1 e

pub numbered_all : {A : Type 0} (P : ℕ × A → Type 0) (from : ℕ) (xs : List A) (n : ℕ) (x : A) → AllByRecursion P (enumerate_from from xs)
    → slice_get xs n ≡ Some x → P (from + n, x)
numbered_all P from [] n x all e = absurd cc
numbered_all P from (y ∷ ys) zero x all e =
    subst (λ (k : ℕ). P (k, x)) (let a : from ≡ from + 0 = omega arith in a) (subst (λ (z : _). P (from, z)) (same_Some y x e) all.0)
numbered_all P from (y ∷ ys) (suc n) x all e =
    subst (λ (k : ℕ). P (k, x)) (let a : (from + 1) + n ≡ from + suc n = omega arith in a) (numbered_all P (from + 1) ys n x all.1 e)

pub at_number : {A : Type 0} (P : ℕ × A → Type 0) (xs : List A) (n : ℕ) (x : A) → AllByRecursion P (enumerate_from 0 xs) → slice_get xs n ≡ Some x → P (n, x)
at_number P xs n x all e = subst (λ (k : ℕ). P (k, x)) (let a : 0 + n ≡ n = omega arith in a) (numbered_all P 0 xs n x all e)

at_in : (P : ℕ → Type 0) (from n k : ℕ) → AllByRecursion P (range_with_len from n) → k < n → P (from + k)
at_in P from zero k h l = absurd (omega (arith, l))
at_in P from (suc n) zero h l = subst P (let e : from ≡ from + 0 = omega arith in e) h.0
at_in P from (suc n) (suc k) h l = subst P (let e : (from + 1) + k ≡ from + suc k = omega arith in e) (at_in P (from + 1) n k h.1 (omega (arith, l)))

pub at_below : (P : ℕ → Type 0) (n k : ℕ) → AllByRecursion P (range_with_len 0 n) → k < n → P k
at_below P n k h l = subst P (let e : 0 + k ≡ k = omega arith in e) (at_in P 0 n k h l)

-- lists by the numbers of items are the items that pass a test, one by one
module _ {A B : Type 0} (f : ℕ → List B) (test : ℕ × A → Bool) (g : ℕ × A → B) where
  one_more : (z : ℕ × A) (zs : List (ℕ × A)) (b : Bool) → cond b (g z ∷ []) [] ++ map g zs ≡ map g (cond b (z ∷ zs) zs)
  one_more z zs true = refl
  one_more z zs false = refl

  flat_numbered : (from : ℕ) (xs : List A)
      → ((k : ℕ) (x : A) → slice_get xs k ≡ Some x → f (from + k) ≡ cond (test (from + k, x)) (g (from + k, x) ∷ []) [])
      → flat_map f (range_with_len from (length xs)) ≡ map g (filter test (enumerate_from from xs))
  flat_numbered from [] h = refl
  flat_numbered from (x ∷ xs) h =
      let first : f from ≡ cond (test (from, x)) (g (from, x) ∷ []) [] =
      subst (λ (k : ℕ). f k ≡ cond (test (k, x)) (g (k, x) ∷ []) []) (let e : from + 0 ≡ from = omega arith in e) (h 0 x refl) in
      let rest : flat_map f (range_with_len (from + 1) (length xs)) ≡ map g (filter test (enumerate_from (from + 1) xs)) =
      flat_numbered (from + 1) xs (λ k y is. subst (λ (n : ℕ). f n ≡ cond (test (n, y)) (g (n, y) ∷ []) [])
      (let e : from + suc k ≡ (from + 1) + k = omega arith in e) (h (suc k) y is)) in
      ap (λ (ys : List B). ys ++ flat_map f (range_with_len (from + 1) (length xs))) first
      ∙ ap (λ (ys : List B). cond (test (from, x)) (g (from, x) ∷ []) [] ++ ys) rest
      ∙ one_more (from, x) (filter test (enumerate_from (from + 1) xs)) (test (from, x))

  pub flat_by_number : (xs : List A) → ((k : ℕ) (x : A) → slice_get xs k ≡ Some x → f k ≡ cond (test (k, x)) (g (k, x) ∷ []) [])
      → flat_map f (range_with_len 0 (length xs)) ≡ map g (filter test (enumerate_from 0 xs))
  flat_by_number xs h = flat_numbered 0 xs (λ k x is. subst (λ (n : ℕ). f n ≡ cond (test (n, x)) (g (n, x) ∷ []) [])
      (let e : k ≡ 0 + k = omega arith in e) (h k x is))

-- ---- what some item has

some_step : {A : Type 0} (test : A → Bool) (P : A → Type 0) (R : Type 0) (x : A) (b rest : Bool) → test x ≡ b → (b || rest) ≡ true → P x
    → ((y : A) → test y ≡ true → P y → R) → (rest ≡ true → R) → R
some_step test P R x true rest is e here use_it later = use_it x is here
some_step test P R x false rest is e here use_it later = later e

pub some_has : {A : Type 0} (test : A → Bool) (P : A → Type 0) (R : Type 0) (xs : List A) → list_any test xs ≡ true → AllByRecursion P xs
    → ((y : A) → test y ≡ true → P y → R) → R
some_has test P R [] e all use_it = absurd cc
some_has test P R (x ∷ xs) e all use_it =
    some_step test P R x (test x) (list_any test xs) refl e all.0 use_it (λ f. some_has test P R xs f all.1 use_it)
