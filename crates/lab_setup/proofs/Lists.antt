-- Lists by index: what stands in a list that was made from another one, and what is first in it.
use Rattle.std.proofs.Common.{◌≡◌, ℕ, ◌+◌, ◌<◌, zero, suc, Bool, true, false, cond, not, ◌||◌, List, [], ◌∷◌, ◌++◌}
use Rattle.std.proofs.Common.{length, map, refl, sym, ap, ◌∙◌, subst, arith, nat_lt, slice_index_or}
use Rattle.std.specs.Prelude.{Option, Some, None, option_map, unwrap_or, slice_get, find, count_by, is_some}
use Rattle.std.specs.List.{AllByRecursion, enumerate_from, list_any, position_or_len, position}
use Rattle.std.proofs.lemmas.Bool.{false≢true}
use Rattle.std.proofs.lemmas.Bool.Decides.{nat_tests}
use Rattle.std.proofs.lemmas.List.Sums.{sum_by-cons}
use Rattle.std.proofs.lemmas.Option.{slice_get-get_or}
use Rattle.lab_keys.specs.Kinds.{first_of, each_from}
use Rattle.lab_keys.proofs.NoFlaws.{none_left, none_right}
use Rattle.lab_tables.proofs.Groups.{any_of_mapped}
use Rattle.lab_input.specs.declared.bad.BadInput.{BadInput}
use Rattle.lab_input.specs.Names.{each_after}

-- ---- indices

pub get_mapped : {A B : Type 0} (f : A → B) (xs : List A) (k : ℕ) → slice_get (map f xs) k ≡ option_map f (slice_get xs k)
get_mapped f [] k = refl
get_mapped f (x ∷ xs) zero = refl
get_mapped f (x ∷ xs) (suc k) = get_mapped f xs k

get_numbered_from : {A B : Type 0} (f : ℕ × A → B) (xs : List A) (i k : ℕ)
    → slice_get (map f (enumerate_from i xs)) k ≡ option_map (λ x. f (i + k, x)) (slice_get xs k)
get_numbered_from f [] i k = refl
get_numbered_from f (x ∷ xs) i zero = let same : i ≡ i + zero = omega arith in ap (λ n. Some (f (n, x))) same
get_numbered_from f (x ∷ xs) i (suc k) =
    let same : i + 1 + k ≡ i + suc k = omega arith in
    get_numbered_from f xs (i + 1) k ∙ ap (λ n. option_map (λ y. f (n, y)) (slice_get xs k)) same

-- what is made from each element and its index
pub get_numbered : {A B : Type 0} (f : ℕ × A → B) (xs : List A) (k : ℕ)
    → slice_get (map f (enumerate_from 0 xs)) k ≡ option_map (λ x. f (k, x)) (slice_get xs k)
get_numbered f xs k =
    let same : 0 + k ≡ k = omega arith in
    get_numbered_from f xs 0 k ∙ ap (λ n. option_map (λ y. f (n, y)) (slice_get xs k)) same

length_numbered_from : {A B : Type 0} (f : ℕ × A → B) (xs : List A) (i : ℕ) → length (map f (enumerate_from i xs)) ≡ length xs
length_numbered_from f [] i = refl
length_numbered_from f (x ∷ xs) i = ap suc (length_numbered_from f xs (i + 1))

pub length_numbered : {A B : Type 0} (f : ℕ × A → B) (xs : List A) → length (map f (enumerate_from 0 xs)) ≡ length xs
length_numbered f xs = length_numbered_from f xs 0

-- what an option was made from
pub record IsMadeOf {A B : Type 0} (f : A → B) (o : Option A) (y : B) : Type 0 where
  pub x : A
  pub there : o ≡ Some x
  pub is : f x ≡ y

pub some_is : {A : Type 0} (x y : A) → Some x ≡ Some y → x ≡ y
some_is x y e = ap (λ o. unwrap_or o x) e

pub none_is : {A : Type 0} (y : A) → None ≡ Some y → ⊥
none_is y e = false≢true (ap is_some e)

pub made_of : {A B : Type 0} (f : A → B) (o : Option A) (y : B) → option_map f o ≡ Some y → IsMadeOf f o y
made_of f None y e = absurd (none_is y e)
made_of f (Some x) y e = record { x = x; there = refl; is = some_is (f x) y e }

-- an index of a list is below its length, and below it something stands
pub get_below : {A : Type 0} (xs : List A) (k : ℕ) (x : A) → slice_get xs k ≡ Some x → k < length xs
get_below [] k x e = absurd (none_is x e)
get_below (y ∷ xs) zero x e = omega arith
get_below (y ∷ xs) (suc k) x e = let h = get_below xs k x e in omega arith

pub record IsIn {A : Type 0} (xs : List A) (k : ℕ) : Type 0 where
  pub x : A
  pub is : slice_get xs k ≡ Some x

pub below_get : {A : Type 0} (xs : List A) (k : ℕ) → k < length xs → IsIn xs k
below_get [] k lt = absurd (omega arith)
below_get (y ∷ xs) zero lt = record { x = y; is = refl }
below_get (y ∷ xs) (suc k) lt = let rest = below_get xs k (omega arith) in record { x = rest.x; is = rest.is }

-- what was read at an index
pub read_at : {X : Type 0} (xs ys : List X) (i k : ℕ) (x : X) → ys ≡ xs → i ≡ k → k < length xs → x ≡ slice_index_or ys i x → slice_get xs k ≡ Some x
read_at xs ys i k x same index below is =
    slice_get-get_or xs k x below ∙ ap Some (sym (is ∙ ap (λ zs. slice_index_or zs i x) same ∙ ap (λ n. slice_index_or xs n x) index))

pub all_at : {A : Type 0} (P : A → Type 0) (xs : List A) (k : ℕ) (x : A) → AllByRecursion P xs → slice_get xs k ≡ Some x → P x
all_at P [] k x all e = absurd (none_is x e)
all_at P (y ∷ xs) zero x all e = subst P (some_is y x e) all.0
all_at P (y ∷ xs) (suc k) x all e = all_at P xs k x all.1 e

pub all_mapped : {A B : Type 0} (f : A → B) (P : A → Type 0) (Q : B → Type 0) → ((x : A) → P x → Q (f x)) → (xs : List A) → AllByRecursion P xs
    → AllByRecursion Q (map f xs)
all_mapped f P Q each [] ps = tt
all_mapped f P Q each (x ∷ xs) ps = (each x ps.0, all_mapped f P Q each xs ps.1)

pub all_numbered : {A B : Type 0} (f : ℕ × A → B) (P : A → Type 0) (Q : B → Type 0) → ((n : ℕ) (x : A) → P x → Q (f (n, x))) → (xs : List A) (i : ℕ)
    → AllByRecursion P xs
    → AllByRecursion Q (map f (enumerate_from i xs))
all_numbered f P Q each [] i ps = tt
all_numbered f P Q each (x ∷ xs) i ps = (each i x ps.0, all_numbered f P Q each xs (i + 1) ps.1)

pub all_both : {A : Type 0} (P Q R : A → Type 0) → ((x : A) → P x → Q x → R x) → (xs : List A) → AllByRecursion P xs → AllByRecursion Q xs → AllByRecursion R xs
all_both P Q R each [] ps qs = tt
all_both P Q R each (x ∷ xs) ps qs = (each x ps.0 qs.0, all_both P Q R each xs ps.1 qs.1)

pub all_append : {A : Type 0} (P : A → Type 0) (xs ys : List A) → AllByRecursion P xs → AllByRecursion P ys → AllByRecursion P (xs ++ ys)
all_append P [] ys ps qs = qs
all_append P (x ∷ xs) ys ps qs = (ps.0, all_append P xs ys ps.1 qs)

-- ---- no fault of several

-- one of several flaws that aren't there
pub none_of : {E : Type 0} (flaws : List (Option E)) (k : ℕ) (o : Option E) → first_of flaws ≡ None → slice_get flaws k ≡ Some o → o ≡ None
none_of [] k o none e = absurd (none_is o e)
none_of (f ∷ fs) zero o none e = subst (λ x. x ≡ None) (some_is f o e) (none_left f (first_of fs) none)
none_of (f ∷ fs) (suc k) o none e = none_of fs k o (none_right f (first_of fs) none) e

none_at : {A E : Type 0} (flaw : ℕ → A → Option E) (xs : List A) (i k : ℕ) (x : A) → each_from flaw i xs ≡ None → slice_get xs k ≡ Some x
    → flaw (i + k) x ≡ None
none_at flaw [] i k x none e = absurd (none_is x e)
none_at flaw (y ∷ xs) i zero x none e =
    let same : i ≡ i + zero = omega arith in
    subst (λ n. flaw n x ≡ None) same (subst (λ z. flaw i z ≡ None) (some_is y x e) (none_left (flaw i y) (each_from flaw (i + 1) xs) none))
none_at flaw (y ∷ xs) i (suc k) x none e =
    let same : i + 1 + k ≡ i + suc k = omega arith in
    subst (λ n. flaw n x ≡ None) same (none_at flaw xs (i + 1) k x (none_right (flaw i y) (each_from flaw (i + 1) xs) none) e)

pub none_here : {A E : Type 0} (flaw : ℕ → A → Option E) (xs : List A) (k : ℕ) (x : A) → each_from flaw 0 xs ≡ None → slice_get xs k ≡ Some x → flaw k x ≡ None
none_here flaw xs k x none e =
    let same : 0 + k ≡ k = omega arith in
    subst (λ n. flaw n x ≡ None) same (none_at flaw xs 0 k x none e)

pub none_after : {A : Type 0} (bad : List A → A → Option BadInput) (P : A → Type 0) → ((before : List A) (x : A) → bad before x ≡ None → P x)
    → (before xs : List A) → each_after bad before xs ≡ None
    → AllByRecursion P xs
none_after bad P each before [] none = tt
none_after bad P each before (x ∷ xs) none =
    let rest = each_after bad (before ++ x ∷ []) xs in
    (each before x (none_left (bad before x) rest none), none_after bad P each (before ++ x ∷ []) xs (none_right (bad before x) rest none))

pub none_mapped : {A E : Type 0} (f : A → Option E) (xs : List A) → first_of (map f xs) ≡ None → AllByRecursion (λ x. f x ≡ None) xs
none_mapped f [] none = tt
none_mapped f (x ∷ xs) none = (none_left (f x) (first_of (map f xs)) none, none_mapped f xs (none_right (f x) (first_of (map f xs)) none))

-- ---- the first that passes a test

pub first_below : {A : Type 0} (test : A → Bool) (xs : List A) → list_any test xs ≡ true → position_or_len test xs < length xs
first_below test [] any = absurd (false≢true any)
first_below test (x ∷ xs) any = by_test (test x) any (first_below test xs) where
  by_test : (t : Bool) → (t || list_any test xs) ≡ true → (list_any test xs ≡ true → position_or_len test xs < length xs)
      → cond (not t) (1 + position_or_len test xs) 0 < length (x ∷ xs)
  by_test true any rest = omega arith
  by_test false any rest = let here = rest any in omega arith

pub first_there : {A : Type 0} (test : A → Bool) (xs : List A) → list_any test xs ≡ true → slice_get xs (position_or_len test xs) ≡ find test xs
first_there test [] any = absurd (false≢true any)
first_there test (x ∷ xs) any = by_test (test x) any (first_there test xs) where
  by_test : (t : Bool) → (t || list_any test xs) ≡ true → (list_any test xs ≡ true → slice_get xs (position_or_len test xs) ≡ find test xs)
      → slice_get (x ∷ xs) (cond (not t) (1 + position_or_len test xs) 0) ≡ cond t (Some x) (find test xs)
  by_test true any rest = refl
  by_test false any rest =
      let next : 1 + position_or_len test xs ≡ suc (position_or_len test xs) = omega arith in
      ap (slice_get (x ∷ xs)) next ∙ rest any

first_mapped : {A B : Type 0} (test : B → Bool) (f : A → B) (xs : List A) → position_or_len test (map f xs) ≡ position_or_len (λ x. test (f x)) xs
first_mapped test f [] = refl
first_mapped test f (x ∷ xs) = ap (λ n. cond (not (test (f x))) (1 + n) 0) (first_mapped test f xs)

-- the index of the first one, or 0
pub index_of : {A : Type 0} (test : A → Bool) (xs : List A) → list_any test xs ≡ true → unwrap_or (position test xs) 0 ≡ position_or_len test xs
index_of test xs any = ap (λ (t : Bool). unwrap_or (cond t (Some (position_or_len test xs)) None) 0) (less _ _ (first_below test xs any)) where
  less : (a b : ℕ) → a < b → nat_lt a b ≡ true
  less a b lt = grind (arith, nat_tests)

-- what stands at the index of a text among texts of things is the first thing of that text
pub first_of_text : {A B : Type 0} (test : B → Bool) (f : A → B) (xs : List A) → list_any test (map f xs) ≡ true
    → slice_get xs (unwrap_or (position test (map f xs)) 0) ≡ find (λ x. test (f x)) xs
first_of_text test f xs any =
    ap (slice_get xs) (index_of test (map f xs) any ∙ first_mapped test f xs) ∙ first_there (λ x. test (f x)) xs (any_of_mapped test f xs ∙ any)

-- what is found is of all
pub found_is : {A : Type 0} (P : A → Type 0) (test : A → Bool) (xs : List A) (y : A) → AllByRecursion P xs → find test xs ≡ Some y → P y
found_is P test [] y all e = absurd (none_is y e)
found_is P test (x ∷ xs) y all e = by_test (test x) e (found_is P test xs y all.1) where
  by_test : (t : Bool) → cond t (Some x) (find test xs) ≡ Some y → (find test xs ≡ Some y → P y) → P y
  by_test true e rest = subst P (some_is x y e) all.0
  by_test false e rest = rest e

-- ---- counts

pub count_numbered : {A B : Type 0} (test : B → Bool) (other : A → Bool) (f : ℕ × A → B) → ((n : ℕ) (x : A) → test (f (n, x)) ≡ other x) → (xs : List A) (i : ℕ)
    → count_by test (map f (enumerate_from i xs)) ≡ count_by other xs
count_numbered test other f same [] i = refl
count_numbered test other f same (x ∷ xs) i =
    sum_by-cons (λ y. cond (test y) 1 0) (f (i, x)) (map f (enumerate_from (i + 1) xs))
    ∙ ap (λ (t : Bool). cond t 1 0 + count_by test (map f (enumerate_from (i + 1) xs))) (same i x)
    ∙ ap (λ n. cond (other x) 1 0 + n) (count_numbered test other f same xs (i + 1))
    ∙ sym (sum_by-cons (λ y. cond (other y) 1 0) x xs)
