use Rattle.std.proofs.Common.{Option, subst}
use Rattle.lab_report.specs.declared.lab.RunEnd.{RunEnd}
use Rattle.lab_run.specs.Ends.{LimitNames}
use Rattle.lab_run.proofs.end.decide_at_mark.Goals as goal

pub returns-in-Some : goal.returns-in-Some
returns-in-Some c = λ setup w d sound has at step_is rounds_is total.
    subst (λ (o : Option RunEnd). LimitNames setup w c.args.budget d o) c.in-Some.is (c.in_ok-end.ensures setup w c.args.budget d has at total)

pub returns-in-None : goal.returns-in-None
returns-in-None c = λ setup w d sound has at step_is rounds_is total.
    c.budget_verdict.ensures setup w d sound has at step_is rounds_is
    (subst (λ (o : Option RunEnd). LimitNames setup w c.args.budget d o) c.in-None.is (c.in_ok-end.ensures setup w c.args.budget d has at total))
