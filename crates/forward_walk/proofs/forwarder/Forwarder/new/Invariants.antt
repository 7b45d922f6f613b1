use Rattle.std.proofs.Common.{◌≡◌, map, take}
use Rattle.forward_walk.specs.Tables.{map_of, tables_in}
use Rattle.forward_walk.proofs.forwarder.Forwarder.new.Given as goal

abbrev pub invariant-loop-table : goal.invariant-loop-table
invariant-loop-table l = tables_in l.tries ≡ map map_of (take l.table-index l.table-items)
