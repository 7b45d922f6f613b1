-- Two ways to cut one list.
use Rattle.std.proofs.Common.{◌≡◌, List, [], ◌∷◌, ◌++◌, refl, sym}
use Rattle.std.specs.List.{AllByRecursion}

-- the first cut is not before the second, or it is not behind it
pub data Cut {A : Type 0} (xs ys before step : List A) : Type 0 where
  behind : (mid : List A) → xs ≡ before ++ mid → step ≡ mid ++ ys → Cut xs ys before step
  ahead : (mid : List A) → before ≡ xs ++ mid → ys ≡ mid ++ step → Cut xs ys before step

cut_more : {A : Type 0} (x y : A) (xs ys before step : List A) → x ≡ y → Cut xs ys before step → Cut (x ∷ xs) ys (y ∷ before) step
cut_more x y xs ys before step e (behind mid f g) = behind mid (cc) g
cut_more x y xs ys before step e (ahead mid f g) = ahead mid (cc) g

pub cut_of : {A : Type 0} (xs ys before step : List A) → xs ++ ys ≡ before ++ step → Cut xs ys before step
cut_of [] ys before step e = ahead before refl e
cut_of (x ∷ xs) ys [] step e = behind (x ∷ xs) refl (sym e)
cut_of (x ∷ xs) ys (y ∷ before) step e = cut_more x y xs ys before step (cc) (cut_of xs ys before step (cc))

pub all_append : {A : Type 0} (P : A → Type 0) (xs ys : List A) → AllByRecursion P xs → AllByRecursion P ys → AllByRecursion P (xs ++ ys)
all_append P [] ys f g = g
all_append P (x ∷ xs) ys f g = (f.0, all_append P xs ys f.1 g)

-- a list with something in it isn't empty
pub some_left : {A : Type 0} (mid : List A) (y : A) (ys : List A) → ◌≡◌ {A = List A} [] (mid ++ y ∷ ys) → ⊥
some_left [] y ys e = cc
some_left (m ∷ mid) y ys e = cc
