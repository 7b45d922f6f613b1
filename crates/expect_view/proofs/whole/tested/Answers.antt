use Rattle.std.proofs.Common.{◌∙◌, ◌++◌, eqb, not, length, ap}
use Rattle.std.specs.Prelude.{count_by}
use Rattle.std.specs.List.{flat_map, enumerate_from, list_all}
use Rattle.expect_view.specs.Expect.{holds, expectation_line, counts_line}
use Rattle.expect_view.proofs.Counts.{none_fails}
use Rattle.expect_view.proofs.whole.tested.Goals as goal

pub returns-clause-text : goal.returns-clause-text
returns-clause-text c =
    let lab = c.args.lab.now in
    let failed = c.in_ok-failed.failed in
    let lines = flat_map (expectation_line lab) (enumerate_from 0 c.as_slice-expects.result.now) in
    c.in_ok-push_counts.ensures
    ∙ ap (λ t. t ++ counts_line (length c.as_slice-expects.result.now) failed) (c.in_ok-failed.ensures.text ∙ ap (λ t. t ++ lines) c.new-text.ensures.bytes)
    ∙ ap (λ n. lines ++ counts_line (length c.as_slice-expects.result.now) n) c.in_ok-failed.ensures.failed
    ∙ ap (λ es. flat_map (expectation_line lab) (enumerate_from 0 es) ++ counts_line (length es) (count_by (λ e. not (holds lab e)) es))
    c.as_slice-expects.ensures

pub returns-clause-all : goal.returns-clause-all
returns-clause-all c =
    ap (λ n. eqb n 0) c.in_ok-failed.ensures.failed ∙ none_fails (holds c.args.lab.now) c.as_slice-expects.result.now
    ∙ ap (list_all (holds c.args.lab.now)) c.as_slice-expects.ensures
