use Rattle.std.proofs.Common.{◌<◌, length, string_bytes, arith}
use Rattle.why_view.proofs.Numbered.{numbered_more}
use Rattle.show_view.specs.Show.{router_lines}
use Rattle.show_view.proofs.show.push_routers.Goals as goal

-- the lines so far, and behind them those of one router more
pub loop-index-preserved : goal.loop-index-preserved
loop-index-preserved c =
    let below : c.loop-index.index < length c.as_slice-routers.result.now = omega (arith, c.loop-index-test.true) in
    numbered_more (router_lines c.args.lab.now) c.as_slice-routers.result.now c.loop-index.index c.index-routers-index.result
    (string_bytes c.args.text.now) (string_bytes c.loop-index.text) (string_bytes c.push_router.new.text) below c.index-routers-index.is
    c.loop-index.invariant c.in_ok-push_router.ensures
