-- Attributes of unknown types that rise, one by one.
use Rattle.std.proofs.Common.{ℕ, ◌+◌, ◌≤◌, ◌<◌, List, [], ◌∷◌, arith}
use Rattle.std.specs.List.{All, AllByRecursion}
use Rattle.std.proofs.lemmas.List.Elements.{All-nil, All-cons, All-head, All-tail}
use Rattle.bgp_types.specs.declared.attrs.RawAttr.{RawAttr}
use Rattle.bgp_types.specs.Rising.{IsRising}
use Rattle.bgp_types.specs.Values.{other_kind}
use Rattle.bgp_types.specs.Writable.{IsOther}

-- each is of an unknown type, from a least one on, and each further type is higher
abbrev pub RiseFrom : ℕ → List RawAttr → Type 0
RiseFrom least [] = Unit {0}
RiseFrom least (x ∷ xs) = IsOther x × (least ≤ x.kind) × RiseFrom (x.kind + 1) xs

further : (k least n : ℕ) → k < least → least ≤ n → k < n
further k least n l m = omega arith

further_one : (k least n : ℕ) → k < least → least ≤ n → k < n + 1
further_one k least n l m = omega arith

above : (least : ℕ) (xs : List RawAttr) → RiseFrom least xs → (k : ℕ) → k < least → AllByRecursion (λ y. k < y.kind) xs
above least [] h k l = tt
above least (x ∷ xs) h k l = (further k least x.kind l h.1, above (x.kind + 1) xs h.2 k (further_one k least x.kind l h.1))

rises : (least : ℕ) (xs : List RawAttr) → RiseFrom least xs → IsRising other_kind xs
rises least [] h = tt
rises least (x ∷ xs) h = (above (x.kind + 1) xs h.2 x.kind (omega arith), rises (x.kind + 1) xs h.2)

others : (least : ℕ) (xs : List RawAttr) → RiseFrom least xs → All IsOther xs
others least [] h = All-nil IsOther
others least (x ∷ xs) h = All-cons IsOther x xs h.0 (others (x.kind + 1) xs h.2)

pub to_both : (xs : List RawAttr) → RiseFrom 0 xs → All IsOther xs × IsRising other_kind xs
to_both xs h = (others 0 xs h, rises 0 xs h)

one_more : (m n : ℕ) → m < n → m + 1 ≤ n
one_more m n l = omega arith

from_parts : (least : ℕ) (xs : List RawAttr) → All IsOther xs → AllByRecursion (λ y. least ≤ y.kind) xs → IsRising other_kind xs → RiseFrom least xs
from_parts least [] o a r = tt
from_parts least (x ∷ xs) o a r = (All-head IsOther x xs o, a.0, from_parts (x.kind + 1) xs (All-tail IsOther x xs o) (next xs r.0) r.1) where
  next : (ys : List RawAttr) → AllByRecursion (λ y. x.kind < y.kind) ys → AllByRecursion (λ y. x.kind + 1 ≤ y.kind) ys
  next [] h = tt
  next (y ∷ ys) h = (one_more x.kind y.kind h.0, next ys h.1)

any : (xs : List RawAttr) → AllByRecursion (λ y. 0 ≤ y.kind) xs
any [] = tt
any (x ∷ xs) = (omega arith, any xs)

pub from_both : (xs : List RawAttr) → All IsOther xs × IsRising other_kind xs → RiseFrom 0 xs
from_both xs h = from_parts 0 xs h.0 (any xs) h.1
