use Rattle.std.proofs.Common.{◌≡◌, [], map, take, drop}
use Rattle.std.specs.HashSet.{contains}
use Rattle.std.specs.List.{list_any}
use Rattle.toml.specs.View.{table_view}
use Rattle.lab_input.specs.declared.faults.SegmentKey.{SegmentKey}
use Rattle.lab_input.specs.contracts.faults.SegmentKeyPartialEq.TheImpl as key_eq
use Rattle.lab_input.specs.Names.{each_after, fault_named}
use Rattle.lab_input.proofs.Keys.{has_segment}
use Rattle.lab_input.proofs.faults.faults_named.Given as goal

abbrev pub invariant-loop-table : goal.invariant-loop-table
invariant-loop-table l = record {
  seen : (key : SegmentKey)
      → contains (key_eq.ghosts).eq l.seen key ≡ list_any (has_segment l.peerings key) (map (λ u. table_view u.now) (take l.table-index l.tables));
  walk : each_after (fault_named l.peerings) (map (λ u. table_view u.now) (take l.table-index l.tables))
      (map (λ u. table_view u.now) (drop l.table-index l.tables))
      ≡ each_after (fault_named l.peerings) [] (map (λ u. table_view u.now) l.tables);
}
