use Rattle.std.proofs.Common.{arith}
use Rattle.picture_view.specs.Axes.{lane_shape}
use Rattle.story_view.proofs.Steps.{numbered_more}
use Rattle.picture_view.proofs.axes.push_lanes.Goals as goal

-- one more
pub loop-router-preserved : goal.loop-router-preserved
loop-router-preserved c =
    numbered_more (lane_shape c.args.plan.now) c.args.lanes.now c.loop-router.router c.index-lanes-router.result _ _ _
    (omega (arith, c.loop-router-test.true)) c.index-lanes-router.is c.loop-router.invariant c.in_ok-push_lane.ensures
