use Rattle.std.proofs.Common.{◌≡◌}
use Rattle.router_tables.specs.Dues.{AddsBelow}
use Rattle.router_core.specs.Deciding.{is_up_at}
use Rattle.router_core.proofs.stages.decide.due_on_sessions.Given as goal

-- it is due on the first so many
abbrev pub invariant-loop-n : goal.invariant-loop-n
invariant-loop-n l = AddsBelow l.n (is_up_at l.initial.router) l.fn.prefix l.initial.router.due_out l.router.due_out
    × (l.router ≡ record l.initial.router { due_out = l.router.due_out })
