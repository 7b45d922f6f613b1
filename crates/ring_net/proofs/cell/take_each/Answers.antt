use Rattle.ring_net.proofs.TakesEach.{same_in_self, same_in_more, same_edges_self, same_edges_then}
use Rattle.ring_net.proofs.Peers.{walking_none, walking_more, walking_done}
use Rattle.ring_net.proofs.cell.take_each.Goals as goal

pub loop-from-init : goal.loop-from-init
loop-from-init g c = record {
  rings = λ a. same_in_self _;
  edges = same_edges_self c.args.post.now;
  walk = walking_none g.A.Actor.part g.A.Actor.makes g.A.Actor.took c.args.senders.now c.args.actor.now c.args.post.now c.args.ins.now c.requires;
}

pub loop-from-preserved : goal.loop-from-preserved
loop-from-preserved g c = record {
  rings = same_in_more _ c.args.ins.now c.loop-from.ins c.take_at.new.ins c.loop-from.invariant.rings c.take_at.ensures.ring c.take_at.ensures.others;
  edges = same_edges_then c.args.post.now c.loop-from.post c.take_at.new.post c.loop-from.invariant.edges c.take_at.ensures.edges;
  walk = walking_more g.A.Actor.part g.A.Actor.makes g.A.Actor.took c.args.senders.now c.loop-from.from-index
      c.args.actor.now c.loop-from.actor c.take_at.new.actor c.args.post.now c.loop-from.post c.take_at.new.post
      c.args.ins.now c.loop-from.ins c.take_at.new.ins c.loop-from-test.true c.loop-from.invariant.walk c.in_ok-take_at.ensures.took c.take_at.ensures.others;
}

pub returns-clause-took : goal.returns-clause-took
returns-clause-took g c = walking_done g.A.Actor.part g.A.Actor.makes g.A.Actor.took c.args.senders.now c.loop-from.from-index c.args.actor.now
    c.loop-from.actor c.args.post.now c.loop-from.post c.args.ins.now c.loop-from.ins c.loop-from-test.false c.loop-from.invariant.walk
