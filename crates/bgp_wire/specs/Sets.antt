-- Sets of prefixes.
use Rattle.std.specs.Prelude.{◌≡◌, List, Bool}
use Rattle.std.specs.BTreeSet.{contains}
use Rattle.std.specs.List.{list_any}
use Rattle.bgp_types.specs.Prefixes.{PrefixValue, same_prefix}
use Rattle.bgp_types.specs.Tables.{prefix_cmp}
use Rattle.bgp_wire.specs.declared.set.SeenPrefixes.{SeenPrefixes}

-- whether the set has the prefix
abbrev pub has : SeenPrefixes → PrefixValue → Bool
has set p = contains prefix_cmp set.prefixes p

-- the members of the set are the prefixes of a list
abbrev pub IsSetOf : SeenPrefixes → List PrefixValue → Type 0
IsSetOf set prefixes = (p : PrefixValue) → has set p ≡ list_any (same_prefix p) prefixes
