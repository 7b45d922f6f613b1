-- What a field of attributes gives.
use Rattle.std.specs.Prelude.{ℕ, ◌==◌, List, [], ◌∷◌, length, Option, Some, None, Result, Ok, Err, Bool, true, is_some, ◌&&◌, if◌then◌else◌}
use Rattle.bgp_types.specs.declared.attrs.Aggregator.{Aggregator}
use Rattle.bgp_types.specs.declared.attrs.RawAttr.{RawAttr}
use Rattle.bgp_types.specs.declared.fault.FoundAttrs.{FoundAttrs}
use Rattle.bgp_types.specs.declared.message.Notice.{Notice}
use Rattle.bgp_types.specs.declared.path.PathPart.{PathPart}
use Rattle.bgp_types.specs.Faults.{ok_in, origin_in, path_in, next_hop_in, med_in, aggregator_in, aggregator_of, is_transitive, kept_raw, attr_of, attrs_fault}
use Rattle.bgp_types.specs.Many.{many}
use Rattle.bgp_types.specs.Merge.{merged_aggregator, is_stale, path_with}
use Rattle.bgp_types.specs.PathOctets.{path_of}
use Rattle.bgp_types.specs.Rising.{in_rising}
use Rattle.bgp_types.specs.WireAttrs.{WireAttr, attr_at}
use Rattle.bgp_types.specs.Values.{is_other, other_kind}

abbrev pub said : {A : Type 0} → (WireAttr → Result A Notice) → Option WireAttr → Option A
said read None = None
said read (Some a) = ok_in (read a)

-- a path, unless it is empty
abbrev pub if_some_part : Option (List PathPart) → Option (List PathPart)
if_some_part None = None
if_some_part (Some []) = None
if_some_part (Some (part ∷ path)) = Some (part ∷ path)

-- AS4_PATH, unless it isn't transitive, is empty or is malformed
abbrev pub as4_path_in : Option WireAttr → Option (List PathPart)
as4_path_in None = None
as4_path_in (Some a) = if is_transitive a then if_some_part (path_of true a.value) else None

-- AS4_AGGREGATOR, unless it isn't transitive or has another length
abbrev pub as4_aggregator_in : Option WireAttr → Option Aggregator
as4_aggregator_in None = None
as4_aggregator_in (Some a) = if is_transitive a && (length a.value == 8) then Some (aggregator_of true a) else None

-- nothing in a wide UPDATE, where AS4 attributes don't count
abbrev pub unless_wide : {A : Type 0} → Bool → Option A → Option A
unless_wide wide said = if wide then None else said

abbrev pub join : Option RawAttr → List RawAttr → List RawAttr
join None others = others
join (Some a) others = a ∷ others

-- the attributes of unknown types that are kept
abbrev pub kept : List WireAttr → List RawAttr
kept [] = []
kept (a ∷ others) = if is_other a.kind then join (kept_raw a) (kept others) else kept others

unfoldable pub found_in : Bool → List WireAttr → FoundAttrs
found_in wide attrs =
    let aggregator = said (aggregator_in wide) (attr_of 7 attrs) in
    let as4_aggregator = unless_wide wide (as4_aggregator_in (attr_of 18 attrs)) in
    let as4_path = unless_wide wide (as4_path_in (attr_of 17 attrs)) in
    record {
      origin = said origin_in (attr_of 1 attrs);
      path = path_with (is_stale aggregator as4_aggregator) (said (path_in wide) (attr_of 2 attrs)) as4_path;
      next_hop = said next_hop_in (attr_of 3 attrs);
      med = said med_in (attr_of 4 attrs);
      atomic = is_some (attr_of 6 attrs);
      aggregator = merged_aggregator aggregator as4_aggregator;
      unknown = in_rising other_kind (kept attrs);
    }

abbrev pub unless : {A : Type 0} → Option Notice → A → Result A Notice
unless None x = Ok x
unless (Some n) x = Err n

-- the field, cut into attributes: their first fault, or what they give
unfoldable pub attrs_in : Bool → List ℕ → Result FoundAttrs Notice
attrs_in wide bytes = unless (attrs_fault wide [] (many attr_at bytes).0 (many attr_at bytes).1) (found_in wide (many attr_at bytes).0)
