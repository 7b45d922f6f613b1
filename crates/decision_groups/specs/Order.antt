-- The order of the sources of routes, and lists of ranks in that order.
use Rattle.std.specs.Prelude.{List, Option}
use Rattle.std.specs.Ordering.{nat_cmp}
use Rattle.std.specs.List.Sorted.{IsStrictlySortedBy}
use Rattle.std.specs.Map.{lookup, keys_of, remove_entry}
use Rattle.std.specs.BTreeMap.{is_at, insert_entry}
use Rattle.std.specs.declared.cmp.Ordering.{Ordering}
use Rattle.std.specs.declared.cmp.Ordering.TheVariants.{Less, Equal, Greater}
use Rattle.bgp_types.specs.declared.rank.From.{From}
use Rattle.bgp_types.specs.declared.rank.From.TheVariants.{Own, Peering, Router}
use Rattle.bgp_types.specs.declared.rank.Rank.{Rank}

-- the own network first, then peerings in ascending order of number, then routers in ascending order of number
abbrev pub from_order : From → From → Ordering
from_order Own Own = Equal
from_order Own (Peering q) = Less
from_order Own (Router s) = Less
from_order (Peering p) Own = Greater
from_order (Peering p) (Peering q) = nat_cmp p.0 q.0
from_order (Peering p) (Router s) = Less
from_order (Router r) Own = Greater
from_order (Router r) (Peering q) = Greater
from_order (Router r) (Router s) = nat_cmp r.0 s.0

-- a rank together with the source of its route: a candidate that is named by its source
abbrev pub RankedSource : Type 0
RankedSource = From × Rank

-- each at its index in this order, and none twice
abbrev pub IsInOrder : List RankedSource → Type 0
IsInOrder candidates = IsStrictlySortedBy from_order (keys_of candidates)

-- the rank of the route from this source
abbrev pub rank_at : List RankedSource → From → Option Rank
rank_at candidates from = lookup (is_at (from_order from)) candidates

-- the list with this rank in its place: it replaces the rank from that source, if there is one
abbrev pub with_rank : List RankedSource → From → Rank → List RankedSource
with_rank candidates from rank = insert_entry from_order candidates from rank

-- the list without the rank from this source
abbrev pub without_source : List RankedSource → From → List RankedSource
without_source candidates from = remove_entry (is_at (from_order from)) candidates
