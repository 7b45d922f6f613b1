use Rattle.std.proofs.Common.{arith}
use Rattle.report_json.specs.Run.{router_json}
use Rattle.report_json.proofs.Listed.{mapped_more}
use Rattle.report_json.proofs.routers.routers_value.Goals as goal

-- the values so far, and behind them that of one router more
pub loop-index-preserved : goal.loop-index-preserved
loop-index-preserved c =
    mapped_more c.as_slice-routers.result.now c.loop-index.index c.index-routers-index.result
    (router_json c.args.lab.now.input c.as_slice-tables.result.now) _ _ _
    (omega (arith, c.loop-index-test.true)) c.index-routers-index.is c.loop-index.invariant c.in_ok-push_value.ensures c.in_ok-value.ensures
