use Rattle.std.proofs.Common.{◌≡◌, ◌++◌, drop}
use Rattle.operator_state.specs.Evacuate.{seated_from}
use Rattle.operator_state.proofs.evacuate.peerings_at.Given as goal

abbrev pub invariant-loop-number : goal.invariant-loop-number
invariant-loop-number l = l.peerings ++ seated_from l.number l.router (drop l.number l.seats) ≡ seated_from 0 l.router l.seats
