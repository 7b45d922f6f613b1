use Rattle.rtrb.specs.Ring.{SameConsumer}
use Rattle.ring_net.specs.Posts.{SameEdges}
use Rattle.ring_net.proofs.Takes.{Taking}
use Rattle.ring_net.proofs.cell.take_from.Given as goal

-- one item was taken in each round
abbrev pub invariant-loop : goal.invariant-loop
invariant-loop g l = record {
  ring : SameConsumer l.initial.into l.into;
  edges : SameEdges l.initial.post l.post;
  taking : Taking g.A.Actor.part g.A.Actor.makes g.A.Actor.took l.from l.initial.actor l.initial.post l.initial.into l.counter l.actor l.post l.into;
}
