use Rattle.std.proofs.Common.{ap}
use Rattle.std.specs.Prelude.{is_some}
use Rattle.ring_net.proofs.Peers.{lists_set}
use Rattle.ring_net.proofs.ends.Ends.take.Goals as goal

pub invariant_of-self : goal.invariant_of-self
invariant_of-self g c = record {
  listed = lists_set c.args.self.now.slots.items c.args.peer c.take.new.self c.args.self.now.peers.items
      (λ h. ap is_some c.take.ensures.after) c.args.self.now.listed;
}
