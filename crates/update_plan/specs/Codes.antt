-- Numbers that encode what is told of a prefix. A list is encoded as its numbers, each increased by 1, and a 0 at its end.
use Rattle.std.specs.Prelude.{ℕ, ◌+◌, List, [], ◌∷◌, ◌++◌, map, Option, Some, None, Bool, if◌then◌else◌}
use Rattle.std.specs.List.{flat_map}
use Rattle.bgp_types.specs.declared.attrs.Aggregator.{Aggregator}
use Rattle.bgp_types.specs.declared.attrs.Attrs.{Attrs}
use Rattle.bgp_types.specs.declared.attrs.Origin.{Origin}
use Rattle.bgp_types.specs.declared.attrs.Origin.TheVariants.{Igp, Egp, Incomplete}
use Rattle.bgp_types.specs.declared.attrs.RawAttr.{RawAttr}
use Rattle.bgp_types.specs.declared.path.PathPart.{PathPart}
use Rattle.bgp_types.specs.declared.path.PathPart.TheVariants.{Set, Sequence}

abbrev pub listed : List ℕ → List ℕ
listed numbers = map (λ n. n + 1) numbers ++ 0 ∷ []

abbrev pub part_code : PathPart → List ℕ
part_code (Set ases) = 1 ∷ listed ases
part_code (Sequence ases) = 2 ∷ listed ases

abbrev pub path_code : List PathPart → List ℕ
path_code path = flat_map part_code path ++ 0 ∷ []

abbrev pub flag : Bool → ℕ
flag b = if b then 1 else 0

abbrev pub raw_code : RawAttr → List ℕ
raw_code raw = (raw.kind + 1) ∷ flag raw.partial ∷ listed raw.bytes

abbrev pub raws_code : List RawAttr → List ℕ
raws_code raws = flat_map raw_code raws ++ 0 ∷ []

abbrev pub origin_index : Origin → ℕ
origin_index Igp = 0
origin_index Egp = 1
origin_index Incomplete = 2

abbrev pub med_code : Option ℕ → List ℕ
med_code None = 0 ∷ []
med_code (Some med) = (med + 1) ∷ []

abbrev pub aggregator_code : Option Aggregator → List ℕ
aggregator_code None = 0 ∷ []
aggregator_code (Some a) = (a.as_number + 1) ∷ a.address ∷ flag a.partial ∷ []

abbrev pub head_code : Attrs → List ℕ
head_code a = origin_index a.origin ∷ a.next_hop ∷ flag a.atomic ∷ med_code a.med ++ aggregator_code a.aggregator

-- attributes, or none
abbrev pub value_code : Option Attrs → List ℕ
value_code None = []
value_code (Some a) = path_code a.path ++ (raws_code a.unknown ++ head_code a)
