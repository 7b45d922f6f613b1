use Rattle.std.proofs.Common.{length}
use Rattle.journal_form.proofs.ReadSoFar.{SoFar}
use Rattle.journal_form.proofs.reading.read_entries.Given as goal

abbrev pub invariant-loop-entry : goal.invariant-loop-entry
invariant-loop-entry l = SoFar l.rest l.entries l.left

abbrev pub decreases-loop-entry : goal.decreases-loop-entry
decreases-loop-entry l = length l.left
