-- The one written form of each message (RFC 4271, section 4; RFC 6793, section 4), in the width of
-- its AS numbers: four octets where it is wide, else two.
use Rattle.std.specs.Prelude.{ℕ, ◌+◌, List, [], ◌∷◌, ◌++◌, length, map, Option, Some, None, Bool, true, ◌&&◌, not, if◌then◌else◌}
use Rattle.std.specs.List.{flat_map}
use Rattle.std.specs.Int.{w16, w32, to_be_bytes}
use Rattle.bgp_types.specs.declared.attrs.Aggregator.{Aggregator}
use Rattle.bgp_types.specs.declared.attrs.Attrs.{Attrs}
use Rattle.bgp_types.specs.declared.attrs.Origin.{Origin}
use Rattle.bgp_types.specs.declared.attrs.Origin.TheVariants.{Igp, Egp, Incomplete}
use Rattle.bgp_types.specs.declared.attrs.RawAttr.{RawAttr}
use Rattle.bgp_types.specs.declared.message.Cap.{Cap}
use Rattle.bgp_types.specs.declared.message.Message.{Message}
use Rattle.bgp_types.specs.declared.message.Message.TheVariants.{OpenMsg, UpdateMsg, NoticeMsg, KeepaliveMsg}
use Rattle.bgp_types.specs.declared.message.OpenMsg as open_type
use Rattle.bgp_types.specs.declared.message.Update.{Update}
use Rattle.bgp_types.specs.declared.path.PathPart.{PathPart}
use Rattle.bgp_types.specs.Prefixes.{PrefixValue, prefix_octets}
use Rattle.bgp_types.specs.PathOctets.{as_width, path_octets, path_in_width, has_long_as, is_long_as, narrow_as}
use Rattle.bgp_types.specs.Rising.{in_rising}
use Rattle.bgp_types.specs.WireAttrs.{WireAttr, wire_kind, attr_octets, written}

-- ---- attributes

abbrev pub origin_number : Origin → ℕ
origin_number Igp = 0
origin_number Egp = 1
origin_number Incomplete = 2

abbrev pub origin_written : Origin → WireAttr
origin_written origin = written 64 1 (origin_number origin ∷ [])

abbrev pub path_written : Bool → List PathPart → WireAttr
path_written wide path = written 64 2 (path_octets wide (path_in_width wide path))

abbrev pub next_hop_written : ℕ → WireAttr
next_hop_written address = written 64 3 (to_be_bytes w32 address)

abbrev pub med_written : Option ℕ → List WireAttr
med_written None = []
med_written (Some med) = written 128 4 (to_be_bytes w32 med) ∷ []

abbrev pub atomic_written : Bool → List WireAttr
atomic_written atomic = if atomic then written 64 6 [] ∷ [] else []

-- optional and transitive, and partial where the attribute is
abbrev pub passed_flags : Bool → ℕ
passed_flags partial = if partial then 224 else 192

abbrev pub aggregator_octets : Bool → ℕ → ℕ → List ℕ
aggregator_octets wide as_number address = to_be_bytes (as_width wide) as_number ++ to_be_bytes w32 address

abbrev pub aggregator_written : Bool → Option Aggregator → List WireAttr
aggregator_written wide None = []
aggregator_written wide (Some a) =
    written (passed_flags a.partial) 7 (aggregator_octets wide (if wide then a.as_number else narrow_as a.as_number) a.address) ∷ []

-- AS4_PATH with the whole path, in a narrow message whose path has an AS that doesn't fit into two octets
abbrev pub as4_path_written : Bool → List PathPart → List WireAttr
as4_path_written wide path = if not wide && has_long_as path then written 192 17 (path_octets true path) ∷ [] else []

-- AS4_AGGREGATOR, in a narrow message whose aggregator has such an AS
abbrev pub as4_aggregator_written : Bool → Option Aggregator → List WireAttr
as4_aggregator_written wide None = []
as4_aggregator_written wide (Some a) = if not wide && is_long_as a.as_number then written 192 18 (aggregator_octets true a.as_number a.address) ∷ [] else []

abbrev pub other_written : RawAttr → WireAttr
other_written a = written (passed_flags a.partial) a.kind a.bytes

unfoldable pub attrs_written : Bool → Attrs → List WireAttr
attrs_written wide a =
    origin_written a.origin ∷ path_written wide a.path ∷ next_hop_written a.next_hop ∷ []
    ++ (med_written a.med
    ++ (atomic_written a.atomic
    ++ (aggregator_written wide a.aggregator
    ++ (as4_path_written wide a.path
    ++ (as4_aggregator_written wide a.aggregator
    ++ map other_written a.unknown)))))

-- the attributes in ascending order of type
unfoldable pub spell_attrs : Bool → Attrs → List ℕ
spell_attrs wide a = flat_map attr_octets (in_rising wire_kind (attrs_written wide a))

-- ---- messages

-- a field behind a length of two octets
abbrev pub length_prefixed : List ℕ → List ℕ
length_prefixed octets = to_be_bytes w16 (length octets) ++ octets

-- a parameter of type 2 with one capability: code, length, value (RFC 5492, section 4)
abbrev pub cap_octets : Cap → List ℕ
cap_octets cap = cap.code ∷ length cap.bytes ∷ cap.bytes

abbrev pub param_octets : List ℕ → List ℕ
param_octets caps = 2 ∷ length caps ∷ caps

-- version 4, AS, hold time, identifier, and the parameters behind a length of one octet
abbrev pub open_octets : ℕ → ℕ → ℕ → List ℕ → List ℕ
open_octets as_number hold identifier params =
    4 ∷ to_be_bytes w16 as_number ++ (to_be_bytes w16 hold ++ (to_be_bytes w32 identifier ++ length params ∷ params))

-- each capability stands in a parameter of its own
abbrev pub spell_open : open_type.OpenMsg → List ℕ
spell_open o = open_octets o.as_number o.hold o.identifier (flat_map (λ cap. param_octets (cap_octets cap)) o.caps)

abbrev pub spell_prefixes : List PrefixValue → List ℕ
spell_prefixes prefixes = flat_map prefix_octets prefixes

abbrev pub spell_some_attrs : Bool → Option Attrs → List ℕ
spell_some_attrs wide None = []
spell_some_attrs wide (Some a) = spell_attrs wide a

abbrev pub spell_update : Bool → Update → List ℕ
spell_update wide u = length_prefixed (spell_prefixes u.withdrawn) ++ (length_prefixed (spell_some_attrs wide u.attrs) ++ spell_prefixes u.nlri)

-- the type of a message
abbrev pub kind_of : Message → ℕ
kind_of (OpenMsg _) = 1
kind_of (UpdateMsg _) = 2
kind_of (NoticeMsg _) = 3
kind_of KeepaliveMsg = 4

abbrev pub spell_body : Message → Bool → List ℕ
spell_body (OpenMsg o) wide = spell_open o
spell_body (UpdateMsg u) wide = spell_update wide u
spell_body (NoticeMsg n) wide = n.code ∷ n.subcode ∷ n.info
spell_body KeepaliveMsg wide = []

-- sixteen octets of FF (hexadecimal)
abbrev pub marker : List ℕ
marker = 255 ∷ 255 ∷ 255 ∷ 255 ∷ 255 ∷ 255 ∷ 255 ∷ 255 ∷ 255 ∷ 255 ∷ 255 ∷ 255 ∷ 255 ∷ 255 ∷ 255 ∷ 255 ∷ []

-- a message of this type: the marker, the length of the whole message, the type, and the body
abbrev pub framed : ℕ → List ℕ → List ℕ
framed kind body = marker ++ (to_be_bytes w16 (19 + length body) ++ kind ∷ body)

unfoldable pub spell : Message → Bool → List ℕ
spell m wide = framed (kind_of m) (spell_body m wide)
