use Rattle.std.proofs.Common.{length}
use Rattle.router_tables.specs.Dues.{AddsBelow}
use Rattle.audit_tables.specs.Dues.{is_other}
use Rattle.audit_tables.proofs.sets.due_to_others.Given as goal

-- it is due to the first so many
abbrev pub invariant-loop-q : goal.invariant-loop-q
invariant-loop-q l = AddsBelow l.q (is_other (length l.initial.due) l.own) l.prefix l.initial.due l.due
