-- How a capsule is spelled.
use Rattle.std.specs.Prelude.{ℕ, ◌≡◌, ◌+◌, ◌==◌, nat_lt, nat_le, Bool, true, false, ◌&&◌, ◌||◌, if◌then◌else◌}
use Rattle.std.specs.Prelude.{List, [], ◌∷◌, ◌++◌, length, slice_index, codes, Option, None, Some}
use Rattle.std.specs.Int.{w8, w16, w32, is_in_range}
use Rattle.std.specs.List.{list_all}
use Rattle.std.specs.Str.{bytes_eq}
use Rattle.std.specs.Ordering.{nat_cmp, ordering_then, is_lt}
use Rattle.bgp_types.specs.Prefixes.{PrefixValue, cleared}
use Rattle.bgp_types.specs.Tables.{prefix_cmp}
use Rattle.tcp_seq.specs.declared.segment.Way.TheVariants.{Remote}
use Rattle.tcp_seq.specs.declared.state.Piece.{Piece}
use Rattle.tcp_seq.specs.declared.state.EndState.{EndState}
use Rattle.capsule_bytes.specs.declared.parts.CapsuleParts.{CapsuleParts}
use Rattle.capsule_bytes.specs.declared.parts.PartLine.{PartLine}
use Rattle.capsule_bytes.specs.declared.parts.PartLine.TheVariants.{Put, Got, Tick}
use Rattle.capsule_bytes.specs.declared.parts.PartChange.{PartChange}
use Rattle.capsule_bytes.specs.declared.parts.Side.{Side}
use Rattle.capsule_bytes.specs.declared.parts.Side.TheVariants.{Heard, Told}
use Rattle.capsule_bytes.specs.Fields.{Field, AreRight, spelled, number, any_number, flag, octets_where, text, counted}

-- ---- the configuration

-- the octets that a capsule begins with
abbrev pub magic : List ℕ
magic = codes "RGC1"

-- bit 0 says whether AS numbers of four octets are offered, and bit 1 whether IPv4 unicast is
abbrev pub offer : (offered unicast : Bool) → ℕ
offer offered unicast = (if offered then 1 else 0) + (if unicast then 2 else 0)

abbrev pub config_fields : (peering remote_as home_as identifier remote_address local_address hold : ℕ) (offered unicast : Bool) → List Field
config_fields peering remote_as home_as identifier remote_address local_address hold offered unicast =
    any_number w8 peering ∷ any_number w32 remote_as ∷ any_number w32 home_as ∷ any_number w32 identifier ∷ any_number w32 remote_address
    ∷ any_number w32 local_address ∷ any_number w16 hold ∷ number w8 (is_in_range 0 3) (offer offered unicast) ∷ []

-- ---- names

abbrev pub is_small_letter : ℕ → Bool
is_small_letter c = is_in_range 97 122 c

-- a to z, 0 to 9, or a dash
abbrev pub is_name_char : ℕ → Bool
is_name_char c = is_small_letter c || is_in_range 48 57 c || c == 45

-- A name has 1 to 16 characters, the first one a to z.
abbrev pub is_name : List ℕ → Bool
is_name text = is_in_range 1 16 (length text) && is_small_letter (slice_index text 0) && list_all is_name_char text

-- a length of 0 for no name
abbrev pub name_fields : Option (List ℕ) → List Field
name_fields None = number w8 (is_in_range 0 16) 0 ∷ []
name_fields (Some name) = number w8 (is_in_range 0 16) (length name) ∷ octets_where is_name name ∷ []

-- ---- the endpoint

-- a place above the end of the piece before
abbrev pub is_ahead_of : Option Piece → ℕ → Bool
is_ahead_of None place = true
is_ahead_of (Some piece) place = nat_lt (piece.offset + length piece.bytes) place

-- a piece has one octet at least
abbrev pub piece_fields : Option Piece → Piece → List Field
piece_fields before piece =
    number w32 (is_ahead_of before) piece.offset ∷ number w32 (nat_lt 0) (length piece.bytes) ∷ octets_where (λ _. true) piece.bytes ∷ []

abbrev pub end_fields : EndState → List Field
end_fields end =
    any_number w32 end.send_first.0 ∷ any_number w32 end.acked ∷ any_number w32 end.sent ∷ text w32 end.waiting
    ++ any_number w32 end.receive_first.0 ∷ any_number w32 end.taken ∷ text w32 end.ready
    ++ (counted piece_fields end.ahead ++ any_number w32 end.acked_at_turn ∷ flag end.owed ∷ [])

-- ---- the story

abbrev pub line_kind : ℕ → Field
line_kind kind = number w8 (is_in_range 1 3) kind

abbrev pub line_fields : Option PartLine → PartLine → List Field
line_fields before (Put octets) = line_kind 1 ∷ text w16 octets
line_fields before (Got octets) = line_kind 2 ∷ text w16 octets
line_fields before (Tick round) = line_kind 3 ∷ any_number w32 round ∷ []

-- ---- late changes

abbrev pub side_number : Side → ℕ
side_number Heard = 0
side_number Told = 1

-- Changes rise: by side, then by address, then by length.
abbrev pub is_above : Option PartChange → Side → PrefixValue → Bool
is_above None side prefix = true
is_above (Some before) side prefix = is_lt (ordering_then (nat_cmp (side_number before.side) (side_number side)) (prefix_cmp before.prefix prefix))

-- an address of which no bit past the length is set
abbrev pub is_prefix : PrefixValue → Bool
is_prefix prefix = nat_le prefix.len 32 && cleared prefix.len prefix.address == prefix.address

-- the length of the prefix of a change
abbrev pub prefix_len : Option PartChange → Side → PrefixValue → Field
prefix_len before side prefix =
    number w8 (λ len. let p : PrefixValue = record prefix { len = len } in is_prefix p && is_above before side p) prefix.len

abbrev pub attrs_fields : Option (List ℕ) → List Field
attrs_fields None = flag false ∷ []
attrs_fields (Some octets) = flag true ∷ text w16 octets

abbrev pub change_fields : Option PartChange → PartChange → List Field
change_fields before change =
    number w8 (is_in_range 0 1) (side_number change.side) ∷ any_number w32 change.prefix.address ∷ prefix_len before change.side change.prefix
    ∷ attrs_fields change.attrs

-- ---- the whole

abbrev pub body_fields : CapsuleParts → List Field
body_fields p =
    config_fields p.peering.0 p.remote_as p.home_as p.identifier p.remote_address p.local_address p.home_hold p.offered p.unicast
    ++ (name_fields p.import ++ (name_fields p.export ++ (end_fields p.end ++ (text w32 p.held
    ++ (counted line_fields p.story ++ counted change_fields p.late)))))

abbrev pub magic_field : Field
magic_field = octets_where (λ octets. bytes_eq octets magic) magic

-- the fields of a capsule, in order
abbrev pub fields : CapsuleParts → List Field
fields p = magic_field ∷ body_fields p

abbrev pub spell_capsule : CapsuleParts → List ℕ
spell_capsule parts = spelled (fields parts)

-- Each field is right, and the endpoint is that of this peering, on the way to the remote.
pub record IsCapsule (parts : CapsuleParts) : Type 0 where
  pub right : AreRight (fields parts)
  pub peering : parts.end.peering ≡ parts.peering
  pub way : parts.end.way ≡ Remote

-- the octets are a capsule
pub record IsCapsuleOf (bytes : List ℕ) (parts : CapsuleParts) : Type 0 where
  pub capsule : IsCapsule parts
  pub bytes_are : bytes ≡ spell_capsule parts
