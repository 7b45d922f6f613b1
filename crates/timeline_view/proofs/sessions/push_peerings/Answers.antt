use Rattle.std.proofs.Common.{arith}
use Rattle.timeline_view.specs.Sessions.{peering_session_line}
use Rattle.story_view.proofs.Steps.{numbered_more}
use Rattle.timeline_view.proofs.sessions.push_peerings.Goals as goal

-- the lines of one more
pub loop-index-preserved : goal.loop-index-preserved
loop-index-preserved c =
    numbered_more (peering_session_line c.args.sessions.now) c.args.peerings.now c.loop-index.index c.index-peerings-index.result _ _ _
    (omega (arith, c.loop-index-test.true))
    c.index-peerings-index.is c.loop-index.invariant c.in_ok-push_peering.ensures
