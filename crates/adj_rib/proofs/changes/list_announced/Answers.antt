use Rattle.std.proofs.Common.{List, sym, subst}
use Rattle.std.specs.List.Sorted.{IsStrictlySortedBy}
use Rattle.bgp_types.specs.Prefixes.{PrefixValue}
use Rattle.bgp_types.specs.Tables.{prefix_cmp}
use Rattle.adj_rib.proofs.Indices.{none_rise}
use Rattle.adj_rib.proofs.changes.list_announced.Goals as goal

pub returns-then-is_none-clause-rising : goal.returns-then-is_none-clause-rising
returns-then-is_none-clause-rising c = subst (λ (ps : List PrefixValue). IsStrictlySortedBy prefix_cmp ps) (sym c.new.ensures) none_rise
