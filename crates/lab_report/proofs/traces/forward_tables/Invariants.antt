use Rattle.std.proofs.Common.{◌≡◌, map, take}
use Rattle.forward_walk.specs.Tables.{map_of}
use Rattle.lab_report.specs.Traces.{forwards_of}
use Rattle.lab_report.proofs.traces.forward_tables.Given as goal

-- the tables so far are those of the routers so far
abbrev pub invariant-loop-table : goal.invariant-loop-table
invariant-loop-table l = map map_of l.made ≡ map forwards_of (take l.table-index l.tables)
