-- An attribute as it stands in its field: flags, type, a length of one octet or of two, and a value of that length (RFC 4271, section 4.3).
use Rattle.std.specs.Prelude.{◌<◌, [], Option, Some, None, ℕ, ◌+◌, ◌==◌, List, ◌∷◌, ◌++◌, length, bit_and, nat_lt, if◌then◌else◌}
use Rattle.std.specs.Int.{Width, w8, w16, to_be_bytes}
use Rattle.bgp_types.specs.Many.{number_at, told_at}

pub record WireAttr : Type 0 where
  pub flags : ℕ
  pub kind : ℕ
  pub value : List ℕ

abbrev pub wire_kind : WireAttr → ℕ
wire_kind a = a.kind

-- the flag 10 (hexadecimal), extended length, makes the length field two octets
abbrev pub size_width : ℕ → Width
size_width flags = if bit_and flags 16 == 0 then w8 else w16

-- the octets of the attribute
abbrev pub attr_octets : WireAttr → List ℕ
attr_octets a = a.flags ∷ a.kind ∷ to_be_bytes (size_width a.flags) (length a.value) ++ a.value

-- an attribute as it is written: extended length only where the value has more than 255 octets
abbrev pub written : ℕ → ℕ → List ℕ → WireAttr
written flags kind value = record { flags = if nat_lt 255 (length value) then flags + 16 else flags; kind = kind; value = value }

abbrev pub size_limit : ℕ → ℕ
size_limit flags = if bit_and flags 16 == 0 then 256 else 65536

-- its numbers fit into their octets, and its length is that of the value
pub record IsWireAttr (a : WireAttr) : Type 0 where
  pub flags : a.flags < 256
  pub kind : a.kind < 256
  pub size : length a.value < size_limit a.flags

abbrev pub attr_with_value : ℕ → ℕ → Option (List ℕ × List ℕ) → Option (WireAttr × List ℕ)
attr_with_value flags kind None = None
attr_with_value flags kind (Some v) = Some (record { flags = flags; kind = kind; value = v.0 }, v.1)

-- the attribute at the front
unfoldable pub attr_at : List ℕ → Option (WireAttr × List ℕ)
attr_at [] = None
attr_at (flags ∷ []) = None
attr_at (flags ∷ kind ∷ bytes) = attr_with_value flags kind (told_at (number_at (size_width flags) bytes))
