use Rattle.std.proofs.Common.{arith}
use Rattle.std.specs.Prelude.{is_ok, Some}
use Rattle.ring_net.proofs.Peers.{lists_longer, lists_ascend, lists_set_added}
use Rattle.ring_net.proofs.ends.Ends.put.Goals as goal

pub invariant_of-self : goal.invariant_of-self
invariant_of-self g c = record {
  listed = lists_longer c.loop-self.self.slots.items c.push.new.self.items
      (is_ok c.push.result) c.loop-self.self.peers.items c.push.ensures.items c.loop-self.self.listed;
}

pub add_peer-requires : goal.add_peer-requires
add_peer-requires g c = lists_ascend c.loop-self.self.slots.items 0 c.loop-self.self.peers.items c.loop-self.self.listed

pub invariant_of-self-2 : goal.invariant_of-self-2
invariant_of-self-2 g c = record {
  listed = lists_set_added c.loop-self.self.slots.items c.args.peer (Some c.args.end) c.loop-self.self.peers.items c.add_peer.new.peers.items
      (omega (arith, c.loop-self-test.false, c.len.ensures, c.loop-self.self.slots.ok.0)) c.in_ok-add_peer.ensures.ok c.loop-self.self.listed;
}
