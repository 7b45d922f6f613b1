-- What the attributes of a field give, each by itself.
use Rattle.std.specs.Prelude.{ℕ, ◌==◌, List, [], ◌∷◌, ◌++◌, Option, Some, None, Result, Bool, true, is_some, if◌then◌else◌}
use Rattle.bgp_types.specs.declared.attrs.RawAttr.{RawAttr}
use Rattle.bgp_types.specs.declared.fault.FoundAttrs.{FoundAttrs}
use Rattle.bgp_types.specs.declared.message.Notice.{Notice}
use Rattle.bgp_types.specs.Faults.{ok_in, origin_in, path_in, next_hop_in, med_in, aggregator_in, kept_raw, attr_of, attrs_fault}
use Rattle.bgp_types.specs.Found.{said, as4_path_in, as4_aggregator_in, unless_wide, kept, unless}
use Rattle.bgp_types.specs.Many.{many}
use Rattle.bgp_types.specs.Merge.{merged_aggregator, is_stale, path_with}
use Rattle.bgp_types.specs.Rising.{in_rising}
use Rattle.bgp_types.specs.Values.{other_kind}
use Rattle.bgp_types.specs.WireAttrs.{WireAttr, attr_at}
use Rattle.attr_codec.specs.declared.said.Said.{Said}

unfoldable pub attributes_said : Bool → List WireAttr → Said
attributes_said wide attrs = record {
  origin = said origin_in (attr_of 1 attrs);
  path = said (path_in wide) (attr_of 2 attrs);
  next_hop = said next_hop_in (attr_of 3 attrs);
  med = said med_in (attr_of 4 attrs);
  atomic = is_some (attr_of 6 attrs);
  aggregator = said (aggregator_in wide) (attr_of 7 attrs);
  as4_path = unless_wide wide (as4_path_in (attr_of 17 attrs));
  as4_aggregator = unless_wide wide (as4_aggregator_in (attr_of 18 attrs));
  unknown = kept attrs;
}

-- the field, cut into attributes: their first fault, or what they give
unfoldable pub all_said : Bool → List ℕ → Result Said Notice
all_said wide bytes = unless (attrs_fault wide [] (many attr_at bytes).0 (many attr_at bytes).1) (attributes_said wide (many attr_at bytes).0)

-- what they give together
abbrev pub found_of : Said → FoundAttrs
found_of s = record {
  origin = s.origin;
  path = path_with (is_stale s.aggregator s.as4_aggregator) s.path s.as4_path;
  next_hop = s.next_hop;
  med = s.med;
  atomic = s.atomic;
  aggregator = merged_aggregator s.aggregator s.as4_aggregator;
  unknown = in_rising other_kind s.unknown;
}

-- ---- one further attribute, of a type that wasn't there

-- an unknown attribute goes to the end, if it is kept
abbrev pub with_kept : Option RawAttr → List RawAttr → List RawAttr
with_kept None attrs = attrs
with_kept (Some a) attrs = attrs ++ a ∷ []

unfoldable pub with_attr : Bool → WireAttr → Said → Said
with_attr wide a s =
    if a.kind == 1 then record s { origin = ok_in (origin_in a) }
    else if a.kind == 2 then record s { path = ok_in (path_in wide a) }
    else if a.kind == 3 then record s { next_hop = ok_in (next_hop_in a) }
    else if a.kind == 4 then record s { med = ok_in (med_in a) }
    else if a.kind == 5 then s
    else if a.kind == 6 then record s { atomic = true }
    else if a.kind == 7 then record s { aggregator = ok_in (aggregator_in wide a) }
    else if a.kind == 17 then record s { as4_path = unless_wide wide (as4_path_in (Some a)) }
    else if a.kind == 18 then record s { as4_aggregator = unless_wide wide (as4_aggregator_in (Some a)) }
    else record s { unknown = with_kept (kept_raw a) s.unknown }
