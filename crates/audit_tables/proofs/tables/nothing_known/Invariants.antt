use Rattle.std.proofs.Common.{◌≡◌, replicate, None}
use Rattle.audit_tables.proofs.tables.nothing_known.Given as goal

abbrev pub invariant-loop-p : goal.invariant-loop-p
invariant-loop-p l = l.pending.items ≡ replicate l._p None
