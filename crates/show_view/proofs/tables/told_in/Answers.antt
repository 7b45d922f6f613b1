use Rattle.show_view.proofs.Octets.{told_more}
use Rattle.show_view.proofs.tables.told_in.Goals as goal

pub loop-line-preserved : goal.loop-line-preserved
loop-line-preserved c =
    told_more c.args.lines.now c.loop-line.line-index c.line-item.result c.loop-line.routes c.tell.new.routes c.loop-line-test.true c.line-item.is
    c.loop-line.invariant c.in_ok-tell.ensures
