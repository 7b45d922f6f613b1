-- Fields of attributes, written and read back.
use Rattle.std.specs.Prelude.{◌^◌, ◌<◌, length, Some, Bool}
use Rattle.bgp_types.specs.declared.attrs.Attrs.{Attrs}
use Rattle.bgp_types.specs.declared.fault.FoundAttrs.{FoundAttrs}
use Rattle.bgp_types.specs.Spelling.{spell_attrs}
use Rattle.bgp_types.specs.Writable.{IsWritableAttrs}

-- Each attribute has a value that it can be read with, those of unknown types are in ascending order of type, and the length of the field fits in two
-- octets.
pub record FitsField (attrs : Attrs) (wide : Bool) : Type 0 where
  pub writable : IsWritableAttrs attrs
  pub size : length (spell_attrs wide attrs) < 2 ^ 16

-- attributes with all that an announcement needs
abbrev pub all_found : Attrs → FoundAttrs
all_found a = record {
  origin = Some a.origin;
  path = Some a.path;
  next_hop = Some a.next_hop;
  med = a.med;
  atomic = a.atomic;
  aggregator = a.aggregator;
  unknown = a.unknown;
}
