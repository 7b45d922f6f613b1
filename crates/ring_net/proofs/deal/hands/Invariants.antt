use Rattle.std.proofs.Common.{◌≤◌}
use Rattle.std.specs.List.{All}
use Rattle.ring_net.specs.declared.deal.Hand.{Hand}
use Rattle.ring_net.proofs.deal.hands.Given as goal

-- no chunk ends behind the cells
abbrev pub invariant-loop : goal.invariant-loop
invariant-loop l = (l.next ≤ l.count) × All (λ (hand : Hand). hand.end ≤ l.count) l.hands.items
