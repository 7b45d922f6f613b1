use Rattle.std.proofs.Common.{arith}
use Rattle.report_json.proofs.Listed.{gathered_more}
use Rattle.view_json.specs.Timeline.{peering_json}
use Rattle.view_json.proofs.sessions.sessions_value.Goals as goal

-- the values so far, and behind them those of one more
pub loop-index-preserved : goal.loop-index-preserved
loop-index-preserved c =
    gathered_more c.as_slice-peerings.result.now c.loop-index.index c.index-peerings-index.result
    (peering_json c.args.lab.now.sessions) _ _ (omega (arith, c.loop-index-test.true)) c.index-peerings-index.is
    c.loop-index.invariant c.in_ok-push_peering.ensures
