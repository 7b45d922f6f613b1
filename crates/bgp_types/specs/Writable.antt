-- Which messages have a written form that reads back as themselves (RFC 4271, section 4).
use Rattle.std.specs.Prelude.{◌≡◌, ◌≢◌, ◌^◌, ◌<◌, ◌≤◌, List, [], ◌++◌, length, Option, Some, None, IfSome, All, Bool, true, false}
use Rattle.std.specs.List.{flat_map, IsDistinct}
use Rattle.bgp_types.specs.declared.attrs.Aggregator.{Aggregator}
use Rattle.bgp_types.specs.declared.attrs.Attrs.{Attrs}
use Rattle.bgp_types.specs.declared.attrs.RawAttr.{RawAttr}
use Rattle.bgp_types.specs.declared.message.Message.{Message}
use Rattle.bgp_types.specs.declared.message.Message.TheVariants.{OpenMsg, UpdateMsg, NoticeMsg, KeepaliveMsg}
use Rattle.bgp_types.specs.declared.message.OpenMsg as open_type
use Rattle.bgp_types.specs.declared.message.Update.{Update}
use Rattle.bgp_types.specs.declared.path.PathPart.{PathPart}
use Rattle.bgp_types.specs.Paths.{ases_of}
use Rattle.bgp_types.specs.Prefixes.{PrefixValue, IsPrefix, same_prefix}
use Rattle.bgp_types.specs.Rising.{IsRising}
use Rattle.bgp_types.specs.Values.{is_no_host, is_other, other_kind, is_short_hold}
use Rattle.bgp_types.specs.Spelling.{spell, param_octets, cap_octets}

-- 1 to 255 ASes of four octets each
pub record IsPart (part : PathPart) : Type 0 where
  pub some : 0 < length (ases_of part)
  pub count : length (ases_of part) < 256
  pub each : All (λ as_number. as_number < 2 ^ 32) (ases_of part)

pub record IsOther (a : RawAttr) : Type 0 where
  pub other : is_other a.kind ≡ true
  pub kind : a.kind < 256

pub record IsAggregator (a : Aggregator) : Type 0 where
  pub as_number : a.as_number < 2 ^ 32
  pub address : a.address < 2 ^ 32

pub record IsWritableAttrs (a : Attrs) : Type 0 where
  pub path : All IsPart a.path
  pub next_hop : is_no_host a.next_hop ≡ false
  pub med : IfSome a.med (λ med. med < 2 ^ 32)
  pub aggregator : IfSome a.aggregator IsAggregator
  pub unknown : All IsOther a.unknown
  pub rising : IsRising other_kind a.unknown

-- A hold time is 0, or 3 and above. The identifier is a host's address. The parameters have a length of one octet.
pub record IsWritableOpen (o : open_type.OpenMsg) : Type 0 where
  pub as_number : o.as_number < 2 ^ 16
  pub hold : o.hold < 2 ^ 16
  pub hold_time : is_short_hold o.hold ≡ false
  pub identifier : is_no_host o.identifier ≡ false
  pub params : length (flat_map (λ cap. param_octets (cap_octets cap)) o.caps) < 256

-- attributes are present if and only if prefixes are announced
abbrev pub HasAttrsFor : Option Attrs → List PrefixValue → Type 0
HasAttrsFor None nlri = nlri ≡ []
HasAttrsFor (Some a) nlri = (nlri ≢ []) × IsWritableAttrs a

-- No prefix occurs twice, in one list or in both.
pub record IsWritableUpdate (u : Update) : Type 0 where
  pub withdrawn : All IsPrefix u.withdrawn
  pub nlri : All IsPrefix u.nlri
  pub once : IsDistinct same_prefix (u.withdrawn ++ u.nlri)
  pub attrs : HasAttrsFor u.attrs u.nlri

abbrev pub IsWritableBody : Message → Type 0
IsWritableBody (OpenMsg o) = IsWritableOpen o
IsWritableBody (UpdateMsg u) = IsWritableUpdate u
IsWritableBody (NoticeMsg n) = Unit {0}
IsWritableBody KeepaliveMsg = Unit {0}

pub record IsWritable (m : Message) (wide : Bool) : Type 0 where
  pub body : IsWritableBody m
  pub size : length (spell m wide) ≤ 4096
