use Rattle.std.proofs.Common.{◌≡◌, ◌≤◌, length}
use Rattle.std.specs.List.{All}
use Rattle.ring_net.specs.declared.deal.Hand.{Hand}
use Rattle.ring_net.proofs.deal.deal_all.Given as goal

-- the table is as long as it was, and no chunk ends behind it
abbrev pub invariant-loop-load : goal.invariant-loop-load
invariant-loop-load l = (length l.table.places.items ≡ length l.initial.table.places.items)
    × All (λ (hand : Hand). hand.end ≤ length l.initial.table.places.items) l.hands
