use Rattle.std.proofs.Common.{◌++◌, ◌<◌, ◌∙◌, ap, sym, append_assoc, string_bytes, take, length, arith}
use Rattle.std.specs.Prelude.{if◌then◌else◌}
use Rattle.std.specs.List.{flat_map, enumerate_from}
use Rattle.lab_input.proofs.Numbered.{flat_map_numbered}
use Rattle.expect_view.specs.Expect.{expectation_line, holds}
use Rattle.expect_view.proofs.Counts.{fails_more}
use Rattle.expect_view.proofs.whole.push_expectations.Goals as goal

-- the lines so far, and behind them that of one expectation more
pub loop-index-preserved : goal.loop-index-preserved
loop-index-preserved c =
    let lab = c.args.lab.now in
    let expects = c.args.expects.now in
    let i = c.loop-index.index in
    let expectation = c.index-expects-index.result in
    let below : i < length expects = omega (arith, c.loop-index-test.true) in
    let lines = flat_map (expectation_line lab) (enumerate_from 0 (take i expects)) in
    let piece = expectation_line lab (i, expectation) in
    let more = flat_map_numbered (expectation_line lab) expects i expectation below c.index-expects-index.is in
    let same = c.as_slice.ensures in
    record {
      text = c.in_ok-more.ensures.text ∙ ap (λ e. string_bytes c.loop-index.text ++ expectation_line lab (i, e)) same
          ∙ ap (λ t. t ++ piece) c.loop-index.invariant.text ∙ append_assoc (string_bytes c.args.text.now) lines piece
          ∙ ap (λ l. string_bytes c.args.text.now ++ l) (sym more);
      failed = fails_more (holds lab) expects i expectation c.loop-index.failed c.in_ok-more.more below c.index-expects-index.is
          c.loop-index.invariant.failed (c.in_ok-more.ensures.failed ∙ ap (λ e. if holds lab e then 0 else 1) same);
      few = omega (arith, c.loop-index.invariant.few, c.in_ok-more.ensures.few);
    }
