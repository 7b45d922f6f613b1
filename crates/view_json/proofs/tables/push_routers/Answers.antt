use Rattle.std.proofs.Common.{arith}
use Rattle.why_view.proofs.Numbered.{numbered_more}
use Rattle.view_json.specs.Timeline.{router_counts}
use Rattle.view_json.proofs.tables.push_routers.Goals as goal

-- the values so far, and behind them those of one more
pub loop-index-preserved : goal.loop-index-preserved
loop-index-preserved c =
    numbered_more (router_counts c.args.round c.args.here.now) c.args.routers.now c.loop-index.index c.index-routers-index.result
    _ _ _ (omega (arith, c.loop-index-test.true)) c.index-routers-index.is c.loop-index.invariant c.in_ok-push_router.ensures
