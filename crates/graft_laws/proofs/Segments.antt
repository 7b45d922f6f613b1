-- Segments that lie in lists, as these change.
use Rattle.std.proofs.Common.{◌≡◌, ◌==◌, ℕ, zero, suc, ◌+◌, Bool, true, false, List, [], ◌∷◌, ◌++◌, take, drop, Some, sym, subst, arith}
use Rattle.std.specs.Prelude.{slice_get, if◌then◌else◌}
use Rattle.std.specs.List.{AllByRecursion}
use Rattle.std.proofs.lemmas.Bool.Decides.{nat_tests}
use Rattle.std.proofs.lemmas.List.{take-append-drop}
use Rattle.tcp_seq.specs.Endpoint.{Endpoint, PlacedSegment}
use Rattle.tcp_seq.specs.Connection.{IsEmittedBy}
use Rattle.graft_model.specs.Parts.{Outward, Seg, PointAt}
use Rattle.graft_model.specs.FarRows.{without, left_by}
use Rattle.graft_laws.specs.Phases.{only_at}
use Rattle.graft_laws.specs.Streams.{IsOutwardOf}
use Rattle.graft_laws.proofs.Lists.{all_front, all_back, all_join}

module _ {A : Type 0} (P : A → Type 0) where
  pub all_is : (xs ys : List A) → ys ≡ xs → AllByRecursion P xs → AllByRecursion P ys
  all_is xs ys is all = subst (λ (x : List A). AllByRecursion P x) (sym is) all

  -- what stood before is what was taken, and then what is left
  pub all_left : (taken left was : List A) → taken ++ left ≡ was → AllByRecursion P was → AllByRecursion P left
  all_left taken left was is all = all_back P taken left (all_is was (taken ++ left) is all)

  pub all_only : (m n : ℕ) (x : A) → P x → AllByRecursion P (only_at m x n)
  all_only m n x is = by_test (n == m) where
    by_test : (t : Bool) → AllByRecursion P (if t then x ∷ [] else [])
    by_test true = (is, tt)
    by_test false = tt

  pub all_get : (xs : List A) (n : ℕ) (x : A) → slice_get xs n ≡ Some x → AllByRecursion P xs → P x
  all_get [] n x e all = absurd cc
  all_get (y ∷ xs) zero x e all = subst P (let same : y ≡ x = cc in same) all.0
  all_get (y ∷ xs) (suc n) x e all = all_get xs n x e all.1

  pub all_take : (n : ℕ) (xs : List A) → AllByRecursion P xs → AllByRecursion P (take n xs)
  all_take n xs all = all_front P (take n xs) (drop n xs) (all_is xs (take n xs ++ drop n xs) (take-append-drop n xs) all)

  pub all_drop : (n : ℕ) (xs : List A) → AllByRecursion P xs → AllByRecursion P (drop n xs)
  all_drop n xs all = all_back P (take n xs) (drop n xs) (all_is xs (take n xs ++ drop n xs) (take-append-drop n xs) all)

  pub all_without : (n : ℕ) (xs : List A) → AllByRecursion P xs → AllByRecursion P (without n xs)
  all_without n xs all = all_join P (take n xs) (drop (n + 1) xs) (all_take n xs all) (all_drop (n + 1) xs all)

pub all_left_by : (P : PlacedSegment → Type 0) (keep : Bool) (n : ℕ) (xs : List PlacedSegment) → AllByRecursion P xs → AllByRecursion P (left_by keep n xs)
all_left_by P true n xs all = all
all_left_by P false n xs all = all_without P n xs all

-- the item that stands first in its own channel
pub only_here : {A : Type 0} (m : ℕ) (x : A) → only_at m x m ≡ x ∷ []
only_here m x = grind (arith, nat_tests)

-- what an endpoint's segments are, and still are
pub outward_still : (x x' : Endpoint) → ((segment : PlacedSegment) → IsEmittedBy x segment → IsEmittedBy x' segment) → (item : Outward)
    → IsOutwardOf x item → IsOutwardOf x' item
outward_still x x' still (Seg segment) is = still segment is
outward_still x x' still (PointAt graft) is = tt
