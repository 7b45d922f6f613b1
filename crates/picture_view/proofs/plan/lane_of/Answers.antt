use Rattle.std.proofs.Common.{[], arith}
use Rattle.story_view.proofs.Steps.{numbered_more}
use Rattle.picture_view.specs.Plans.{row_in}
use Rattle.picture_view.proofs.plan.lane_of.Goals as goal

-- one peering more
pub loop-index-preserved : goal.loop-index-preserved
loop-index-preserved c =
    numbered_more (row_in c.args.points.now c.args.router) c.args.peerings.now c.loop-index.index c.index-peerings-index.result [] _ _
    (omega (arith, c.loop-index-test.true)) c.index-peerings-index.is c.loop-index.invariant c.in_ok-push_row.ensures
