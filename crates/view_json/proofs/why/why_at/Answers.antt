use Rattle.std.proofs.Common.{ap, ◌∙◌}
use Rattle.std.proofs.lemmas.Result.{IfOk-weaker}
use Rattle.view_json.specs.Why.{why_if_there}
use Rattle.view_json.proofs.why.why_at.Goals as goal

pub returns-in-Some : goal.returns-in-Some
returns-in-Some c = IfOk-weaker c.why_of.result _ _
    (λ v is. is ∙ ap (why_if_there c.args.lab.now c.args.prefix c.args.number.0) c.in-Some.ensures) c.why_of.ensures
