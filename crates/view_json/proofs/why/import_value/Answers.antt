use Rattle.std.proofs.Common.{ap, ◌∙◌}
use Rattle.std.specs.Prelude.{Option, option_and_then}
use Rattle.std.proofs.lemmas.Result.{IfOk-weaker}
use Rattle.serde_json.specs.Data.{Data}
use Rattle.lab_tables.specs.declared.input.PeeringInput.{PeeringInput}
use Rattle.report_json.proofs.Shown.{view-Null}
use Rattle.report_json.specs.Values.{text_or_null}
use Rattle.view_json.proofs.why.import_value.Goals as goal

pub returns-in-Some : goal.returns-in-Some
returns-in-Some c =
    let form : Option PeeringInput → Data = λ p. text_or_null (option_and_then (λ peering. peering.«import») p) in
    IfOk-weaker c.name_value.result _ _ (λ v is. is ∙ ap form c.in-Some.ensures) c.name_value.ensures

pub returns-in-None : goal.returns-in-None
returns-in-None c =
    let form : Option PeeringInput → Data = λ p. text_or_null (option_and_then (λ peering. peering.«import») p) in
    view-Null ∙ ap form c.in-None.ensures
