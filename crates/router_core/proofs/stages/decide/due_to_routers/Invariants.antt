use Rattle.std.proofs.Common.{◌≡◌}
use Rattle.router_tables.specs.Dues.{AddsBelow}
use Rattle.router_core.specs.Deciding.{is_other_router}
use Rattle.router_core.proofs.stages.decide.due_to_routers.Given as goal

-- it is due to the first so many
abbrev pub invariant-loop-q : goal.invariant-loop-q
invariant-loop-q l = AddsBelow l.q (is_other_router l.initial.router) l.fn.prefix l.initial.router.due_in l.router.due_in
    × (l.router ≡ record l.initial.router { due_in = l.router.due_in })
