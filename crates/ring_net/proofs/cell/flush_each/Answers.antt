use Rattle.ring_net.proofs.Peers.{flushing_more}
use Rattle.ring_net.proofs.cell.flush_each.Goals as goal

pub loop-b-preserved : goal.loop-b-preserved
loop-b-preserved g c = flushing_more c.args.receivers.now c.loop-b.b-index c.args.rings.now c.loop-b.rings c.flush_at.new.rings
    c.args.boxes.now c.loop-b.boxes c.flush_at.new.boxes c.loop-b-test.true c.loop-b.invariant c.flush_at.ensures.here c.flush_at.ensures.others
