use Rattle.std.proofs.Common.{take}
use Rattle.audit_tables.proofs.Waiting.{AreDirty}
use Rattle.audit_tables.proofs.tables.Tables.is_waiting.Given as goal

-- the first so many are dirty
abbrev pub invariant-loop-prefix : goal.invariant-loop-prefix
invariant-loop-prefix l = AreDirty l.self.rib.dirty (take l.prefix-index l.prefix-items)
