use Rattle.std.proofs.Common.{arith}
use Rattle.why_view.proofs.Numbered.{numbered_more}
use Rattle.view_json.specs.Timeline.{opening_json}
use Rattle.view_json.proofs.tables.push_openings.Goals as goal

-- the values so far, and behind them those of one more
pub loop-index-preserved : goal.loop-index-preserved
loop-index-preserved c =
    numbered_more (opening_json c.args.lab.now.input c.args.lab.now.sessions) c.as_slice-peerings.result.now c.loop-index.index c.index-peerings-index.result
    _ _ _ (omega (arith, c.loop-index-test.true)) c.index-peerings-index.is c.loop-index.invariant c.in_ok-push_peering_opening.ensures
