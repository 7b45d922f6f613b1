use Rattle.audit_tables.proofs.Emptied.{AreEmptied}
use Rattle.audit_tables.proofs.sets.are_empty.Given as goal

-- nothing is in the first so many
abbrev pub invariant-loop-n : goal.invariant-loop-n
invariant-loop-n l = AreEmptied l.due l.n
