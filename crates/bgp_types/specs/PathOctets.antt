-- The octets of AS numbers and of paths: two octets for an AS, or four in a wide message
-- (RFC 4271, section 4.3; RFC 6793, section 4.1).
use Rattle.std.specs.Prelude.{zero, suc, ◌*◌, ◌==◌, ◌||◌, [], take, drop, Option, Some, None, ℕ, List, ◌∷◌, length, map, Bool, nat_lt, if◌then◌else◌}
use Rattle.std.specs.List.{flat_map, list_any}
use Rattle.std.specs.Int.{Width, w16, w32, byte_len, from_be_bytes, to_be_bytes}
use Rattle.bgp_types.specs.declared.path.PathPart.{PathPart}
use Rattle.bgp_types.specs.declared.path.PathPart.TheVariants.{Set, Sequence}
use Rattle.bgp_types.specs.Many.{all_of}
use Rattle.bgp_types.specs.Paths.{ases_of}

abbrev pub as_width : Bool → Width
as_width wide = if wide then w32 else w16

-- a part: its kind, the number of its ASes, and the ASes
abbrev pub part_octets : Bool → PathPart → List ℕ
part_octets wide (Set ases) = 1 ∷ length ases ∷ flat_map (to_be_bytes (as_width wide)) ases
part_octets wide (Sequence ases) = 2 ∷ length ases ∷ flat_map (to_be_bytes (as_width wide)) ases

unfoldable pub path_octets : Bool → List PathPart → List ℕ
path_octets wide path = flat_map (part_octets wide) path

-- an AS that doesn't fit into two octets
abbrev pub is_long_as : ℕ → Bool
is_long_as as_number = nat_lt 65535 as_number

-- AS_TRANS, 23456, stands for such an AS in two octets
abbrev pub narrow_as : ℕ → ℕ
narrow_as as_number = if is_long_as as_number then 23456 else as_number

abbrev pub narrow_part : PathPart → PathPart
narrow_part (Set ases) = Set (map narrow_as ases)
narrow_part (Sequence ases) = Sequence (map narrow_as ases)

-- the path that AS_PATH has: in a narrow message each AS as it fits into two octets
abbrev pub path_in_width : Bool → List PathPart → List PathPart
path_in_width wide path = if wide then path else map narrow_part path

-- some AS of the path needs four octets
abbrev pub has_long_as : List PathPart → Bool
has_long_as path = list_any (λ part. list_any is_long_as (ases_of part)) path

-- ---- reading

-- the first count numbers of a width in bytes
abbrev pub numbers : Width → ℕ → List ℕ → List ℕ
numbers w zero bytes = []
numbers w (suc n) bytes = from_be_bytes w (take (byte_len w) bytes) ∷ numbers w n (drop (byte_len w) bytes)

-- the part of this kind
abbrev pub path_part : ℕ → List ℕ → Option PathPart
path_part kind ases = if kind == 1 then Some (Set ases) else if kind == 2 then Some (Sequence ases) else None

abbrev pub with_rest : {A : Type 0} → Option A → List ℕ → Option (A × List ℕ)
with_rest None rest = None
with_rest (Some x) rest = Some (x, rest)

-- the part at the front: its kind is 1 or 2, and its count isn't 0
unfoldable pub part_at : Bool → List ℕ → Option (PathPart × List ℕ)
part_at wide [] = None
part_at wide (kind ∷ []) = None
part_at wide (kind ∷ count ∷ bytes) =
    let size = count * byte_len (as_width wide) in
    if (count == 0) || nat_lt (length bytes) size then None else with_rest (path_part kind (numbers (as_width wide) count bytes)) (drop size bytes)

abbrev pub path_of : Bool → List ℕ → Option (List PathPart)
path_of wide value = all_of (part_at wide) value
