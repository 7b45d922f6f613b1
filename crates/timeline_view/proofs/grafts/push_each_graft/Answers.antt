use Rattle.std.proofs.Common.{arith}
use Rattle.timeline_view.specs.Grafts.{graft_lines}
use Rattle.timeline_view.proofs.Numbered.{piece_more}
use Rattle.timeline_view.proofs.grafts.push_each_graft.Goals as goal

-- the lines of one more
pub loop-graft-preserved : goal.loop-graft-preserved
loop-graft-preserved c =
    piece_more (graft_lines c.args.lab.now c.args.all.now) c.args.log.now c.loop-graft.graft-index c.graft-item.result _ _ _ (omega arith) c.graft-item.is
    c.loop-graft.invariant c.in_ok-push_graft_lines.ensures
