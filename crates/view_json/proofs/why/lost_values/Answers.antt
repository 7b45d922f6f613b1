use Rattle.std.proofs.Common.{arith}
use Rattle.report_json.proofs.Listed.{gathered_more}
use Rattle.view_json.specs.Why.{unless_best}
use Rattle.view_json.proofs.why.lost_values.Goals as goal

-- the values so far, and behind them those of one more
pub loop-index-preserved : goal.loop-index-preserved
loop-index-preserved c =
    gathered_more c.args.candidates.now c.loop-index.index c.index-candidates-index.result
    (unless_best c.args.input.now c.args.ranks.now c.args.best) _ _ (omega (arith, c.loop-index-test.true)) c.index-candidates-index.is
    c.loop-index.invariant c.in_ok-push_unless_best.ensures
