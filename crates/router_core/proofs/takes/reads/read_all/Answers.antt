use Rattle.ring_net.proofs.TakesEach.{same_edges_self, same_edges_then}
use Rattle.rib_stages.proofs.Marks.{when_false, when_true}
use Rattle.router_core.specs.Reading.{ReadsNone, ReadsOne}
use Rattle.router_core.proofs.ReadRows.{reads_first, reads_next, reads_last}
use Rattle.router_core.proofs.takes.reads.read_all.Goals as goal

pub messages-init : goal.messages-init
messages-init c = record { some = reads_first c.args.peering.0 c.args.router.now c.args.post.now c.requires; edges = same_edges_self c.args.post.now }

pub messages-preserved : goal.messages-preserved
messages-preserved c = record {
  some = reads_next c.args.peering.0 c.args.router.now c.messages.router c.read_one.new.router
      c.args.post.now c.messages.post c.read_one.new.post c.messages.invariant.some
      (when_true (ReadsOne c.args.peering.0 c.messages.router c.messages.post c.read_one.new.router c.read_one.new.post) (ReadsNone c.args.peering.0
      c.messages.router c.messages.post c.read_one.new.router c.read_one.new.post) c.in_ok-read_one.field-0 c.if-branch.true c.in_ok-read_one.ensures.read);
  edges = same_edges_then c.args.post.now c.messages.post c.read_one.new.post c.messages.invariant.edges c.read_one.ensures.edges;
}

pub returns-clause-read : goal.returns-clause-read
returns-clause-read c = reads_last c.args.peering.0 c.args.router.now c.messages.router
    c.read_one.new.router c.args.post.now c.messages.post c.read_one.new.post c.messages.invariant.some
    (when_false (ReadsOne c.args.peering.0 c.messages.router c.messages.post c.read_one.new.router c.read_one.new.post) (ReadsNone c.args.peering.0
    c.messages.router c.messages.post c.read_one.new.router c.read_one.new.post) c.in_ok-read_one.field-0 c.if-branch.false c.in_ok-read_one.ensures.read)
