use Rattle.std.proofs.Common.{◌≡◌, length, take}
use Rattle.std.specs.Prelude.{fold}
use Rattle.std.specs.FinMap as map
use Rattle.session_value.specs.Points.{at}
use Rattle.rib_stages.specs.Values.{table_at}
use Rattle.router_core.proofs.stages.put.settle.Given as goal

abbrev pub invariant-loop-prefix : goal.invariant-loop-prefix
invariant-loop-prefix l = record {
  length : length l.due ≡ length l.fn.due;
  settled : table_at l.due ≡ at (table_at l.fn.due) l.n (fold map.remove (table_at l.fn.due l.n) (take l.prefix-index l.prefixes));
}
