use Rattle.std.proofs.Common.{◌≡◌, [], map, take, drop}
use Rattle.std.specs.HashSet.{contains}
use Rattle.std.specs.List.{list_any}
use Rattle.toml.specs.View.{table_view}
use Rattle.lab_input.specs.declared.named.Ends.{Ends}
use Rattle.lab_input.specs.contracts.named.EndsPartialEq.TheImpl as ends_eq
use Rattle.lab_input.specs.Names.{each_after, cost_named}
use Rattle.lab_input.proofs.Keys.{has_ends}
use Rattle.lab_input.proofs.named.costs_named.Given as goal

abbrev pub invariant-loop-table : goal.invariant-loop-table
invariant-loop-table l = record {
  seen : (ends : Ends)
      → contains (ends_eq.ghosts).eq l.seen ends ≡ list_any (has_ends l.routers ends) (map (λ u. table_view u.now) (take l.table-index l.tables));
  walk : each_after (cost_named l.routers) (map (λ u. table_view u.now) (take l.table-index l.tables))
      (map (λ u. table_view u.now) (drop l.table-index l.tables))
      ≡ each_after (cost_named l.routers) [] (map (λ u. table_view u.now) l.tables);
}
