use Rattle.std.proofs.Common.{◌≡◌, ◌≤◌}
use Rattle.row_harness.proofs.table.report_of.Given as goal

abbrev pub invariant-loop-line : goal.invariant-loop-line
invariant-loop-line g l = (l.report.rows ≡ l.line-index) × (l.report.otherwise ≤ l.report.rows)
