-- What a frame reads as, in any accepted spelling (RFC 4271, section 4). Each record says that the
-- octets are these things, one after another, and what the things say.
use Rattle.std.specs.Prelude.{◌≡◌, ◌≢◌, ℕ, ◌^◌, ◌<◌, ◌≤◌, List, [], ◌∷◌, ◌++◌, length, map, Option, Some, None, Bool, false}
use Rattle.std.specs.List.{flat_map, AllByRecursion}
use Rattle.bgp_types.specs.declared.attrs.Attrs.{Attrs}
use Rattle.bgp_types.specs.declared.fault.FoundAttrs.{FoundAttrs}
use Rattle.bgp_types.specs.declared.message.Cap.{Cap}
use Rattle.bgp_types.specs.declared.message.Message.{Message}
use Rattle.bgp_types.specs.declared.message.Message.TheVariants.{OpenMsg, UpdateMsg, NoticeMsg, KeepaliveMsg}
use Rattle.bgp_types.specs.declared.message.OpenMsg as open_type
use Rattle.bgp_types.specs.declared.message.Update.{Update}
use Rattle.bgp_types.specs.Faults.{own_fault}
use Rattle.bgp_types.specs.Found.{found_in}
use Rattle.bgp_types.specs.Prefixes.{PrefixValue, WirePrefix, IsWirePrefix, wire_octets, prefix_said, once_after}
use Rattle.bgp_types.specs.Spelling.{length_prefixed, cap_octets, param_octets, open_octets, framed, kind_of}
use Rattle.bgp_types.specs.UpdateBody.{apart}
use Rattle.bgp_types.specs.WireAttrs.{WireAttr, IsWireAttr, wire_kind, attr_octets}
use Rattle.bgp_types.specs.Values.{is_no_host, is_short_hold}

-- ---- prefixes

-- the prefixes of a field, each once, where it first stands
pub record ReadsPrefixes (field : List ℕ) (prefixes : List PrefixValue) : Type 0 where
  pub spelled : List WirePrefix
  pub octets : field ≡ flat_map wire_octets spelled
  pub each : AllByRecursion IsWirePrefix spelled
  pub says : prefixes ≡ once_after [] (map prefix_said spelled)

-- ---- attributes

-- no two members have the same number
abbrev pub Differ : {A : Type 0} → (A → ℕ) → List A → Type 0
Differ key [] = Unit {0}
Differ key (x ∷ xs) = AllByRecursion (λ y. key y ≢ key x) xs × Differ key xs

-- each attribute is sound, no two have the same type, and this is what they give
pub record ReadsAttrs (wide : Bool) (field : List ℕ) (found : FoundAttrs) : Type 0 where
  pub attrs : List WireAttr
  pub octets : field ≡ flat_map attr_octets attrs
  pub each : AllByRecursion IsWireAttr attrs
  pub sound : AllByRecursion (λ a. own_fault wide a ≡ None) attrs
  pub once : Differ wire_kind attrs
  pub says : found ≡ found_in wide attrs

-- an announcement has an origin, a path and a next hop; without one the attributes are dropped
abbrev pub SaysAttributes : FoundAttrs → Option Attrs → List PrefixValue → Type 0
SaysAttributes found None nlri = nlri ≡ []
SaysAttributes found (Some a) nlri = (nlri ≢ []) × (found ≡ record {
  origin = Some a.origin;
  path = Some a.path;
  next_hop = Some a.next_hop;
  med = a.med;
  atomic = a.atomic;
  aggregator = a.aggregator;
  unknown = a.unknown;
})

-- ---- messages

pub record ReadsUpdate (wide : Bool) (body : List ℕ) (u : Update) : Type 0 where
  pub withdrawn : List ℕ
  pub attrs : List ℕ
  pub nlri : List ℕ
  pub fields : body ≡ length_prefixed withdrawn ++ (length_prefixed attrs ++ nlri)
  pub withdrawn_room : length withdrawn < 2 ^ 16
  pub attrs_room : length attrs < 2 ^ 16
  pub prefixes : List PrefixValue
  pub reads_withdrawn : ReadsPrefixes withdrawn prefixes
  pub found : FoundAttrs
  pub reads_attrs : ReadsAttrs wide attrs found
  pub reads_nlri : ReadsPrefixes nlri u.nlri
  pub announced : SaysAttributes found u.attrs u.nlri
  pub others : u.withdrawn ≡ apart prefixes u.nlri

-- each parameter has capabilities, none or one or more
pub record ReadsOpen (body : List ℕ) (o : open_type.OpenMsg) : Type 0 where
  pub params : List (List Cap)
  pub octets : body ≡ open_octets o.as_number o.hold o.identifier (flat_map (λ caps. param_octets (flat_map cap_octets caps)) params)
  pub room : length (flat_map (λ caps. param_octets (flat_map cap_octets caps)) params) < 256
  pub caps : o.caps ≡ flat_map (λ caps. caps) params
  pub as_number : o.as_number < 2 ^ 16
  pub hold : o.hold < 2 ^ 16
  pub identifier : o.identifier < 2 ^ 32
  pub hold_time : is_short_hold o.hold ≡ false
  pub host : is_no_host o.identifier ≡ false

abbrev pub ReadsBody : List ℕ → Message → Bool → Type 0
ReadsBody body (OpenMsg o) wide = ReadsOpen body o
ReadsBody body (UpdateMsg u) wide = ReadsUpdate wide body u
ReadsBody body (NoticeMsg n) wide = body ≡ n.code ∷ n.subcode ∷ n.info
ReadsBody body KeepaliveMsg wide = body ≡ []

-- a header, and a body that reads as the message
pub record Reads (frame : List ℕ) (m : Message) (wide : Bool) : Type 0 where
  pub body : List ℕ
  pub octets : frame ≡ framed (kind_of m) body
  pub size : length frame ≤ 4096
  pub says : ReadsBody body m wide
