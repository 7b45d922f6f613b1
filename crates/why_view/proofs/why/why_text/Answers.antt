use Rattle.std.proofs.Common.{ap, ◌∙◌}
use Rattle.std.proofs.lemmas.Result.{IfOk-weaker}
use Rattle.why_view.specs.Why.{lines_if_there}
use Rattle.why_view.proofs.why.why_text.Goals as goal

pub returns-in-Some : goal.returns-in-Some
returns-in-Some c = IfOk-weaker c.why_of.result _ _
    (λ text is. is ∙ ap (lines_if_there c.args.lab.now c.args.prefix c.args.number.0) c.in-Some.ensures) c.why_of.ensures
