-- The tables of routers, as maps from prefixes to the sources of the best routes.
use Rattle.std.specs.Prelude.{List, map, slice_index_or, Option}
use Rattle.std.specs.FinMap.{FinMap, empty, get, from_entries}
use Rattle.bgp_types.specs.Prefixes.{PrefixValue}
use Rattle.bgp_types.specs.Tables.{prefix_cmp}
use Rattle.bgp_types.specs.declared.rank.From.{From}
use Rattle.graft_edge.specs.declared.ids.RouterId.{RouterId}
use Rattle.prefix_trie.specs.Table.{TableValue}
use Rattle.forward_walk.specs.declared.entry.ForwardEntry.{ForwardEntry}

abbrev pub ForwardMap : Type 0
ForwardMap = FinMap prefix_cmp From

-- the map of these entries: if a prefix occurs twice, the first entry counts
abbrev pub map_of : List ForwardEntry → ForwardMap
map_of entries = from_entries (map (λ e. (e.prefix, e.from)) entries)

-- the tables that tries hold
abbrev pub tables_in : List (TableValue From) → List ForwardMap
tables_in tries = map (λ trie. trie.contents) tries

-- a router's table, which is empty if there is no such router
abbrev pub forward_map_of : List ForwardMap → RouterId → ForwardMap
forward_map_of tables r = slice_index_or tables r.0 empty

-- the source of a router's best route to a prefix
abbrev pub from_at : List ForwardMap → RouterId → PrefixValue → Option From
from_at tables r p = get (forward_map_of tables r) p
