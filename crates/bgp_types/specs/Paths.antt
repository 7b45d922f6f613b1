-- AS paths (RFC 4271, section 4.3).
use Rattle.std.specs.Prelude.{ℕ, List, ◌∷◌, length, sum_by, Any, Contains}
use Rattle.bgp_types.specs.declared.path.PathPart.{PathPart}
use Rattle.bgp_types.specs.declared.path.PathPart.TheVariants.{Set, Sequence}

-- a set counts as one AS, a sequence as its ASes (RFC 4271, section 9.1.2.2)
abbrev pub part_count : PathPart → ℕ
part_count (Set ases) = 1
part_count (Sequence ases) = length ases

abbrev pub path_count : List PathPart → ℕ
path_count path = sum_by part_count path

-- the first AS of a leading sequence, else the home AS
abbrev pub neighbour_of : List PathPart → ℕ → ℕ
neighbour_of (Sequence (as_number ∷ _) ∷ _) home_as = as_number
neighbour_of _ home_as = home_as

abbrev pub ases_of : PathPart → List ℕ
ases_of (Set ases) = ases
ases_of (Sequence ases) = ases

-- the AS is in some part of the path
abbrev pub HoldsAs : List PathPart → ℕ → Type 0
HoldsAs path as_number = Any (λ part. Contains (ases_of part) as_number) path
