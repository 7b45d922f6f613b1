-- An UPDATE in words: the prefixes that it withdraws and announces, and its attributes.
use Rattle.std.specs.Prelude.{ℕ, List, [], ◌∷◌, ◌++◌, Option, Some, None, Bool, codes, decimal, if◌then◌else◌}
use Rattle.std.specs.List.{flat_map}
use Rattle.bgp_types.specs.declared.attrs.Aggregator.{Aggregator}
use Rattle.bgp_types.specs.declared.attrs.Attrs.{Attrs}
use Rattle.bgp_types.specs.declared.attrs.Origin.{Origin}
use Rattle.bgp_types.specs.declared.attrs.Origin.TheVariants.{Igp, Egp, Incomplete}
use Rattle.bgp_types.specs.declared.attrs.RawAttr.{RawAttr}
use Rattle.bgp_types.specs.declared.message.Update.{Update}
use Rattle.bgp_types.specs.Prefixes.{PrefixValue}
use Rattle.bgp_types.specs.Texts.{address_text, prefix_text}
use Rattle.lab_report.specs.Report.{path_text}
use Rattle.message_words.specs.Notices.{space, octets_text}

-- ---- prefixes

-- a word and the prefixes, where there are some
abbrev pub prefixes_words : List ℕ → List PrefixValue → List ℕ
prefixes_words word [] = []
prefixes_words word (prefix ∷ prefixes) = space ++ word ++ flat_map (λ p. space ++ prefix_text p) (prefix ∷ prefixes)

-- ---- attributes

abbrev pub origin_text : Origin → List ℕ
origin_text Igp = codes "igp"
origin_text Egp = codes "egp"
origin_text Incomplete = codes "incomplete"

abbrev pub med_words : Option ℕ → List ℕ
med_words None = []
med_words (Some med) = codes " med " ++ decimal med

abbrev pub atomic_words : Bool → List ℕ
atomic_words atomic = if atomic then codes " atomic-aggregate" else []

abbrev pub partial_words : Bool → List ℕ
partial_words partial = if partial then codes " partial" else []

-- the AS and the address of the speaker that formed an aggregate
abbrev pub speaker_words : Aggregator → List ℕ
speaker_words a = codes " aggregator " ++ decimal a.as_number ++ space ++ address_text a.address

abbrev pub aggregator_words : Option Aggregator → List ℕ
aggregator_words None = []
aggregator_words (Some a) = speaker_words a ++ partial_words a.partial

-- an attribute of an unknown type: its number, and its value in hexadecimal
abbrev pub raw_words : RawAttr → List ℕ
raw_words a = codes " attribute " ++ decimal a.kind ++ space ++ octets_text a.bytes ++ partial_words a.partial

abbrev pub path_words : Attrs → List ℕ
path_words a = codes " path " ++ path_text a.path

-- what stands beside the path
abbrev pub further_words : Attrs → List ℕ
further_words a = codes " next-hop " ++ address_text a.next_hop ++ codes " origin " ++ origin_text a.origin ++ med_words a.med
    ++ atomic_words a.atomic ++ aggregator_words a.aggregator ++ flat_map raw_words a.unknown

-- the path, and in full all the others
abbrev pub attrs_words : (full : Bool) → Attrs → List ℕ
attrs_words full a = path_words a ++ (if full then further_words a else [])

abbrev pub some_attrs_words : (full : Bool) → Option Attrs → List ℕ
some_attrs_words full None = []
some_attrs_words full (Some a) = attrs_words full a

-- ---- the whole

abbrev pub update_words : (full : Bool) → Update → List ℕ
update_words full u = codes "UPDATE" ++ prefixes_words (codes "withdraw") u.withdrawn ++ prefixes_words (codes "announce") u.nlri
    ++ some_attrs_words full u.attrs
