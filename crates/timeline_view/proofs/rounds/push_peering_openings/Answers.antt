use Rattle.std.proofs.Common.{arith}
use Rattle.timeline_view.specs.Rounds.{opening_line}
use Rattle.story_view.proofs.Steps.{numbered_more}
use Rattle.timeline_view.proofs.rounds.push_peering_openings.Goals as goal

-- the lines of one more
pub loop-index-preserved : goal.loop-index-preserved
loop-index-preserved c =
    numbered_more (opening_line c.args.input.now c.args.sessions.now) c.args.peerings.now c.loop-index.index c.index-peerings-index.result _ _ _
    (omega (arith, c.loop-index-test.true))
    c.index-peerings-index.is c.loop-index.invariant c.in_ok-push_peering_opening.ensures
