use Rattle.std.proofs.Common.{◌<◌, length, string_bytes, arith}
use Rattle.why_view.specs.Why.{unless_best}
use Rattle.why_view.proofs.Numbered.{numbered_more}
use Rattle.why_view.proofs.lines.push_others.Goals as goal

-- the lines so far, and behind them that of one candidate more
pub loop-index-preserved : goal.loop-index-preserved
loop-index-preserved c =
    let below : c.loop-index.index < length c.args.candidates.now = omega (arith, c.loop-index-test.true) in
    numbered_more (unless_best c.args.input.now c.args.ranks.now c.args.best) c.args.candidates.now
    c.loop-index.index c.index-candidates-index.result (string_bytes c.args.text.now) (string_bytes c.loop-index.text)
    (string_bytes c.push_unless_best.new.text) below c.index-candidates-index.is c.loop-index.invariant c.in_ok-push_unless_best.ensures
