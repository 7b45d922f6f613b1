use Rattle.std.proofs.Common.{arith}
use Rattle.picture_view.specs.Shapes.{first_stay}
use Rattle.story_view.proofs.Steps.{numbered_more}
use Rattle.picture_view.proofs.shapes.push_first_stays.Goals as goal

-- one more
pub loop-index-preserved : goal.loop-index-preserved
loop-index-preserved c =
    numbered_more (first_stay c.args.input.now c.args.plan.now) c.args.peerings.now c.loop-index.index c.index-peerings-index.result _ _ _
    (omega (arith, c.loop-index-test.true)) c.index-peerings-index.is c.loop-index.invariant c.in_ok-push_first_stay.ensures
