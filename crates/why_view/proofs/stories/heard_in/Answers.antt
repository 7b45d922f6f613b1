use Rattle.why_view.proofs.Got.{line_at, heard_more}
use Rattle.why_view.proofs.stories.heard_in.Goals as goal

pub hear-requires : goal.hear-requires
hear-requires c = line_at c.args.lines.now c.loop-line.line-index c.line-item.result c.loop-line-test.true c.line-item.is c.requires

pub loop-line-preserved : goal.loop-line-preserved
loop-line-preserved c =
    heard_more c.args.expected.now c.args.lines.now c.loop-line.line-index c.line-item.result c.loop-line.routes c.hear.new.routes c.loop-line-test.true
    c.line-item.is c.loop-line.invariant c.in_ok-hear.ensures
