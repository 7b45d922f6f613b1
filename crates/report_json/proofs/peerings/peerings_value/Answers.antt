use Rattle.std.proofs.Common.{arith}
use Rattle.report_json.specs.Run.{peering_json}
use Rattle.report_json.proofs.Listed.{gathered_more}
use Rattle.report_json.proofs.peerings.peerings_value.Goals as goal

-- the values so far, and behind them those of one peering more
pub loop-index-preserved : goal.loop-index-preserved
loop-index-preserved c =
    let lab = c.args.lab.now in
    gathered_more c.as_slice-peerings.result.now c.loop-index.index c.index-peerings-index.result
    (peering_json lab.input lab.sessions lab.placement) _ _ (omega (arith, c.loop-index-test.true)) c.index-peerings-index.is
    c.loop-index.invariant c.in_ok-push_peering.ensures
