use Rattle.std.proofs.Common.{arith}
use Rattle.report_json.proofs.Tokens.{numbered_mapped}
use Rattle.show_json.specs.Show.{router_json}
use Rattle.show_json.proofs.show.write_routers.Goals as goal

pub loop-index-preserved : goal.loop-index-preserved
loop-index-preserved c =
    numbered_mapped c.as_slice-routers.result.now c.loop-index.index c.index-routers-index.result (omega (arith, c.loop-index-test.true))
    c.index-routers-index.is (router_json c.args.lab.now) _ _ _ c.loop-index.invariant c.in_ok-write_router.ensures
