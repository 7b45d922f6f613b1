-- The order of what is left to do.
use Rattle.std.specs.Prelude.{ℕ, List, [], ◌∷◌}
use Rattle.std.specs.declared.cmp.Ordering.{Ordering}
use Rattle.std.specs.Ordering.{nat_cmp, ordering_then}
use Rattle.std.specs.Cmp.Lexicographic.{slice_cmp}
use Rattle.graft_steps.specs.declared.rest.Pending.{Pending}
use Rattle.graft_steps.specs.declared.rest.Pending.TheVariants.{Script, Graft, Channel, Bag, Stream, Dirty, DueIn, DueOut}

-- the index of its kind among the kinds
abbrev pub kind_index : Pending → ℕ
kind_index Script = 0
kind_index (Graft k) = 1
kind_index (Channel a b) = 2
kind_index (Bag p) = 3
kind_index (Stream p) = 4
kind_index (Dirty r) = 5
kind_index (DueIn r q) = 6
kind_index (DueOut p) = 7

-- the numbers that it has, from the left
abbrev pub numbers_of : Pending → List ℕ
numbers_of Script = []
numbers_of (Graft k) = k ∷ []
numbers_of (Channel a b) = a ∷ b ∷ []
numbers_of (Bag p) = p.0 ∷ []
numbers_of (Stream p) = p.0 ∷ []
numbers_of (Dirty r) = r.0 ∷ []
numbers_of (DueIn r q) = r.0 ∷ q.0 ∷ []
numbers_of (DueOut p) = p.0 ∷ []

-- by kind, and then by numbers
abbrev pub pending_cmp : Pending → Pending → Ordering
pending_cmp p q = ordering_then (nat_cmp (kind_index p) (kind_index q)) (slice_cmp nat_cmp (numbers_of p) (numbers_of q))
