use Rattle.std.proofs.Common.{◌≡◌}
use Rattle.operator_state.specs.Evacuate.{seat_loads}
use Rattle.operator_state.proofs.evacuate.loads_of.Given as goal

abbrev pub invariant-loop-router : goal.invariant-loop-router
invariant-loop-router l = l.loads ≡ seat_loads l.seats l.router
