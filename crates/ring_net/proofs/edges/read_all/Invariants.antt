use Rattle.ring_net.proofs.Linked.{Reading}
use Rattle.ring_net.proofs.edges.read_all.Given as goal

-- the edges so far are read
abbrev pub invariant-loop-from : goal.invariant-loop-from
invariant-loop-from g l = Reading l.edges l.from-index l.initial.cells l.cells
