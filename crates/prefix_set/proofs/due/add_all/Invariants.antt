use Rattle.std.proofs.Common.{◌≡◌, drop}
use Rattle.prefix_set.specs.Slots.{with_all}
use Rattle.prefix_set.proofs.due.add_all.Given as goal

-- the prefixes so far are in the table
abbrev pub invariant-loop-prefix : goal.invariant-loop-prefix
invariant-loop-prefix l = with_all l.table.contents (drop l.prefix-index l.prefixes) ≡ with_all l.initial.table.contents l.prefixes
