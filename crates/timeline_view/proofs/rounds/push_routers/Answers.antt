use Rattle.std.proofs.Common.{arith}
use Rattle.timeline_view.specs.Rounds.{router_line}
use Rattle.story_view.proofs.Steps.{numbered_more}
use Rattle.timeline_view.proofs.rounds.push_routers.Goals as goal

-- the lines of one more
pub loop-index-preserved : goal.loop-index-preserved
loop-index-preserved c =
    numbered_more (router_line c.args.round c.args.here.now) c.args.routers.now c.loop-index.index c.index-routers-index.result _ _ _
    (omega (arith, c.loop-index-test.true))
    c.index-routers-index.is c.loop-index.invariant c.in_ok-push_router.ensures
