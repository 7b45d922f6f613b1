use Rattle.std.specs.FinMap as map
use Rattle.rib_stages.specs.Values.{rib_of, table_from}
use Rattle.rib_stages.specs.Steps.{Drops}
use Rattle.rib_stages.proofs.rib.Rib.drop_from.Given as goal

abbrev pub invariant-loop-prefix : goal.invariant-loop-prefix
invariant-loop-prefix l = Drops (rib_of l.initial.self) l.from (rib_of l.self)

abbrev pub decreases-loop-prefix : goal.decreases-loop-prefix
decreases-loop-prefix l = map.len (table_from (rib_of l.self) l.from)
