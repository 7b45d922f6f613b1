use Rattle.std.proofs.Common.{◌≡◌, ◌++◌, length}
use Rattle.std.specs.Vec.Iter.{into_iter_items, into_iter_len}
use Rattle.audit_tables.proofs.Grouping.{AreOfBatches}
use Rattle.audit_tables.proofs.pending.Pending.new.Given as goal

-- the batches so far are groups
abbrev pub invariant-loop-batch : goal.invariant-loop-batch
invariant-loop-batch l = (l.yielded ++ into_iter_items l.batch-iterator ≡ into_iter_items l.initial.batch-iterator)
    × AreOfBatches l.yielded l.groups.contents
    × (into_iter_len l.batch-iterator ≡ length (into_iter_items l.batch-iterator))
