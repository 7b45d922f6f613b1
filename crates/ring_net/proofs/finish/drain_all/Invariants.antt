use Rattle.ring_net.proofs.Drains.{Draining}
use Rattle.ring_net.proofs.finish.drain_all.Given as goal

-- the edges so far are drained
abbrev pub invariant-loop-from : goal.invariant-loop-from
invariant-loop-from g l = Draining l.edges l.from-index l.initial.cells l.cells l.left
