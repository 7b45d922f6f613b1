use Rattle.router_tables.specs.Dues.{AddsBelow}
use Rattle.audit_tables.specs.Dues.{is_up_in}
use Rattle.audit_tables.proofs.sets.due_where_up.Given as goal

-- it is due on the first so many
abbrev pub invariant-loop-p : goal.invariant-loop-p
invariant-loop-p l = AddsBelow l.p (is_up_in l.up) l.prefix l.initial.due l.due
