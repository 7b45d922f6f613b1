use Rattle.picture_view.specs.Plans.{lane_of}
use Rattle.picture_view.proofs.Ranges.{mapped_more}
use Rattle.picture_view.proofs.plan.lanes_of.Goals as goal

-- one lane more
pub loop-router-preserved : goal.loop-router-preserved
loop-router-preserved c =
    mapped_more (lane_of c.args.peerings.now c.args.points.now) c.loop-router.router c.in_ok-lane.lane _ _ c.loop-router.invariant
    c.in_ok-lane.ensures c.in_ok-push.ensures.ok
