-- The path and the aggregator of a narrow UPDATE that has AS4_PATH or AS4_AGGREGATOR (RFC 6793,
-- section 4.2.3, in this project's profile).
use Rattle.std.specs.Prelude.{ℕ, ◌+◌, ◌-◌, ◌==◌, List, [], ◌∷◌, ◌++◌, length, take, Option, Some, None, Bool, false, not, nat_lt, nat_le, if◌then◌else◌}
use Rattle.bgp_types.specs.declared.attrs.Aggregator.{Aggregator}
use Rattle.bgp_types.specs.declared.path.PathPart.{PathPart}
use Rattle.bgp_types.specs.declared.path.PathPart.TheVariants.{Set, Sequence}
use Rattle.bgp_types.specs.Paths.{part_count, path_count}

abbrev pub lead_part : ℕ → PathPart → PathPart
lead_part count (Set ases) = Set ases
lead_part count (Sequence ases) = Sequence (take count ases)

-- the first n ASes, as parts from the left; the last one is cut if it is a sequence
abbrev pub lead : ℕ → List PathPart → List PathPart
lead count [] = []
lead count (part ∷ path) = if count == 0 then [] else lead_part count part ∷ lead (count - part_count part) path

-- two sequences that meet become one if they have at most 255 ASes together
abbrev pub join_parts : PathPart → PathPart → List PathPart
join_parts (Sequence xs) (Sequence ys) = if nat_le (length xs + length ys) 255 then Sequence (xs ++ ys) ∷ [] else Sequence xs ∷ Sequence ys ∷ []
join_parts (Set xs) part = Set xs ∷ part ∷ []
join_parts (Sequence xs) (Set ys) = Sequence xs ∷ Set ys ∷ []

abbrev pub push_joined : List PathPart → PathPart → List PathPart
push_joined [] part = part ∷ []
push_joined (last ∷ []) part = join_parts last part
push_joined (first ∷ second ∷ path) part = first ∷ push_joined (second ∷ path) part

abbrev pub meet : List PathPart → List PathPart → List PathPart
meet front [] = front
meet front (part ∷ path) = push_joined front part ++ path

-- AS4_PATH replaces the end of AS_PATH, unless it counts more ASes
unfoldable pub merged_path : List PathPart → List PathPart → List PathPart
merged_path path as4_path = if nat_lt (path_count path) (path_count as4_path) then path else meet (lead (path_count path - path_count as4_path) path) as4_path

-- AS4_AGGREGATOR's values, if AGGREGATOR has AS_TRANS, 23456
abbrev pub merged_aggregator : Option Aggregator → Option Aggregator → Option Aggregator
merged_aggregator None as4 = None
merged_aggregator (Some a) None = Some a
merged_aggregator (Some a) (Some b) = if a.as_number == 23456 then Some (record a { as_number = b.as_number; address = b.address }) else Some a

-- AS4_AGGREGATOR is present but AGGREGATOR has an AS other than AS_TRANS: then neither AS4 attribute counts
abbrev pub is_stale : Option Aggregator → Option Aggregator → Bool
is_stale (Some a) (Some b) = not (a.as_number == 23456)
is_stale _ _ = false

abbrev pub path_with : Bool → Option (List PathPart) → Option (List PathPart) → Option (List PathPart)
path_with stale None as4 = None
path_with stale (Some path) None = Some path
path_with stale (Some path) (Some as4) = Some (if stale then path else merged_path path as4)
