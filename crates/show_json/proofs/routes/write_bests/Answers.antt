use Rattle.report_json.proofs.Tokens.{mapped_further}
use Rattle.show_json.specs.Routes.{best_json}
use Rattle.show_json.proofs.routes.write_bests.Goals as goal

pub loop-best-preserved : goal.loop-best-preserved
loop-best-preserved c =
    mapped_further c.args.table.now c.loop-best.best-index c.best-item.result c.loop-best-test.true c.best-item.is (best_json c.args.input.now)
    _ _ _ c.loop-best.invariant c.in_ok-write_best.ensures
