-- The number of octets in which parts of a message are written.
use Rattle.std.specs.Prelude.{ℕ, ◌+◌, List, length, sum_by, Bool, nat_lt, if◌then◌else◌}
use Rattle.bgp_types.specs.declared.message.Cap.{Cap}
use Rattle.bgp_types.specs.declared.path.PathPart.{PathPart}
use Rattle.bgp_types.specs.PathOctets.{part_octets}
use Rattle.bgp_types.specs.Prefixes.{PrefixValue, prefix_octets}
use Rattle.bgp_types.specs.Spelling.{param_octets, cap_octets}
use Rattle.bgp_types.specs.WireAttrs.{WireAttr, attr_octets}

abbrev pub prefix_size : PrefixValue → ℕ
prefix_size p = length (prefix_octets p)

abbrev pub part_size : Bool → PathPart → ℕ
part_size wide part = length (part_octets wide part)

abbrev pub cap_size : Cap → ℕ
cap_size cap = length (param_octets (cap_octets cap))

-- the length of an attribute whose value has this many octets
abbrev pub attr_size_of : ℕ → ℕ
attr_size_of value = if nat_lt 255 value then value + 4 else value + 3

abbrev pub attr_size : WireAttr → ℕ
attr_size a = length (attr_octets a)

abbrev pub attrs_size : List WireAttr → ℕ
attrs_size attrs = sum_by attr_size attrs
