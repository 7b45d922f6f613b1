use Rattle.std.proofs.Common.{◌+◌, ◌∙◌, ◌++◌, sym, ap, string_bytes}
use Rattle.std.specs.Prelude.{is_some, if◌then◌else◌}
use Rattle.expect_view.specs.Expect.{verdict_line}
use Rattle.expect_view.proofs.Counts.{one_fails}
use Rattle.expect_view.proofs.whole.push_expectation.Goals as goal

pub returns-clause-text : goal.returns-clause-text
returns-clause-text c =
    c.in_ok-push_verdict.ensures
    ∙ ap (λ d. string_bytes c.args.text.now ++ verdict_line (c.args.index + 1) d) c.in_ok-found.ensures

-- one fails where the run differs somewhere
pub returns-clause-failed : goal.returns-clause-failed
returns-clause-failed c =
    c.count_of.ensures.count ∙ ap (λ b. if b then 1 else 0) c.is_some.ensures
    ∙ one_fails c.args.lab.now c.args.expectation.now (is_some c.in_ok-found.found) (sym (ap is_some c.in_ok-found.ensures))
