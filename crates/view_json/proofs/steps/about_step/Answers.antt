use Rattle.std.proofs.Common.{ap, ◌∙◌}
use Rattle.std.specs.Prelude.{Option, option_and_then, slice_get}
use Rattle.std.proofs.lemmas.Result.{IfOk-weaker}
use Rattle.serde_json.specs.Data.{Data}
use Rattle.serde_json.specs.View.{view}
use Rattle.lab_tables.specs.declared.input.Step.{Step}
use Rattle.lab_report.specs.Summary.{announced_in_step}
use Rattle.report_json.specs.Values.{count_or_null}
use Rattle.view_json.specs.Events.{withdrawn_in_step, octets_in_step, prefixes_in, step_object}
use Rattle.view_json.proofs.steps.about_step.Goals as goal

pub returns : goal.returns
returns c =
    let step = c.args.step in
    let said = c.step_at-said.ensures in
    let counted : Option Step → Data = λ s. count_or_null (option_and_then octets_in_step s) in
    let there = slice_get c.args.input.now.steps step in
    let announced : Data = prefixes_in announced_in_step there in
    let octets : Data = counted there in
    IfOk-weaker c.step_object.result _ _
    (λ v is. is
    ∙ ap (λ (d : Data). step_object d (view c.octets_value-octets.result) step (view c.in_ok-withdraw.withdraw))
    (c.in_ok-announce.ensures ∙ ap (prefixes_in announced_in_step) said)
    ∙ ap (λ (d : Data). step_object announced d step (view c.in_ok-withdraw.withdraw)) (c.octets_value-octets.ensures ∙ ap counted said)
    ∙ ap (step_object announced octets step) (c.in_ok-withdraw.ensures ∙ ap (prefixes_in withdrawn_in_step) said)) c.step_object.ensures
