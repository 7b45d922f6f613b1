use Rattle.ring_net.proofs.Peers.{FlushingEach}
use Rattle.ring_net.proofs.cell.flush_each.Given as goal

-- the receivers so far are flushed, and the others are as before
abbrev pub invariant-loop-b : goal.invariant-loop-b
invariant-loop-b g l = FlushingEach l.receivers l.b-index l.initial.rings l.initial.boxes l.rings l.boxes
