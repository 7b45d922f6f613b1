-- Attributes, regardless of where they are in memory.
use Rattle.std.specs.Prelude.{◌≡◌, ℕ, List}
use Rattle.bgp_types.specs.WireAttrs.{WireAttr, attr_octets}
use Rattle.attr_codec.specs.declared.piece.Piece.{Piece}

abbrev pub wire_of : ℕ → ℕ → List ℕ → WireAttr
wire_of flags kind value = record { flags = flags; kind = kind; value = value }

abbrev pub wire : Piece → WireAttr
wire p = wire_of p.flags p.kind p.value.now

-- the octets of a piece are those of its attribute
abbrev pub IsPiece : Piece → Type 0
IsPiece p = p.octets.now ≡ attr_octets (wire p)
