-- The attributes of a route, as JSON.
use Rattle.std.specs.Prelude.{[], ◌∷◌, map, Option, Some, None, codes}
use Rattle.serde_json.specs.Data.{Data, null, boolean, string}
use Rattle.bgp_types.specs.declared.attrs.Aggregator.{Aggregator}
use Rattle.bgp_types.specs.declared.attrs.Attrs.{Attrs}
use Rattle.bgp_types.specs.declared.attrs.RawAttr.{RawAttr}
use Rattle.bgp_types.specs.Texts.{address_text}
use Rattle.hex.specs.Hex.{encode_lower}
use Rattle.message_words.specs.Updates.{origin_text}
use Rattle.report_json.specs.Run.{path_json}
use Rattle.report_json.specs.Values.{count, count_or_null, list_of, fields}

-- the speaker that formed an aggregate
abbrev pub speaker_json : Aggregator → Data
speaker_json a = fields ((codes "address", string (address_text a.address)) ∷ (codes "as", count a.as_number) ∷ (codes "partial", boolean a.partial) ∷ [])

abbrev pub aggregator_json : Option Aggregator → Data
aggregator_json None = null
aggregator_json (Some a) = speaker_json a

-- an attribute of an unknown type: its number, and its value in hexadecimal
abbrev pub raw_json : RawAttr → Data
raw_json a = fields ((codes "octets", string (encode_lower a.bytes)) ∷ (codes "partial", boolean a.partial) ∷ (codes "type", count a.kind) ∷ [])

-- all attributes
abbrev pub attrs_json : Attrs → Data
attrs_json a = fields
    ((codes "aggregator", aggregator_json a.aggregator) ∷ (codes "atomic", boolean a.atomic) ∷ (codes "med", count_or_null a.med)
    ∷ (codes "next_hop", string (address_text a.next_hop)) ∷ (codes "origin", string (origin_text a.origin)) ∷ (codes "path", path_json a.path)
    ∷ (codes "unknown", list_of (map raw_json a.unknown)) ∷ [])
