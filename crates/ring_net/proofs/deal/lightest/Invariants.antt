use Rattle.std.proofs.Common.{◌<◌, length, get_or}
use Rattle.std.specs.Prelude.{IfSome}
use Rattle.ring_net.specs.declared.deal.Hand.{Hand}
use Rattle.ring_net.proofs.deal.lightest.Given as goal

-- the worker so far has room
abbrev pub invariant-loop-index : goal.invariant-loop-index
invariant-loop-index l = IfSome l.lightest (λ k. (k < length l.hands) × ((d : Hand) → (get_or l.hands k d).next < (get_or l.hands k d).end))
