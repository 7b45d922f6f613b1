use Rattle.std.proofs.Common.{◌≡◌, ◌++◌}
use Rattle.operator_state.proofs.GiftLoops.{gifts_left}
use Rattle.operator_state.proofs.evacuate.gifts_from.Given as goal

abbrev pub invariant-loop-peering : goal.invariant-loop-peering
invariant-loop-peering l = l.gifts ++ gifts_left l.first l.router l.peering-iterator ≡ gifts_left l.first l.router l.initial.peering-iterator
