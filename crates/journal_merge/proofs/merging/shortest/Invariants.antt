use Rattle.std.proofs.Common.{◌<◌, length}
use Rattle.journal_merge.proofs.merging.shortest.Given as goal

abbrev pub invariant-loop-at : goal.invariant-loop-at
invariant-loop-at l = l.shortest < length l.runs
