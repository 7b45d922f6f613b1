use Rattle.std.proofs.Common.{ap, ◌∙◌}
use Rattle.std.proofs.lemmas.Result.{IfOk-weaker}
use Rattle.serde_json.specs.Written.{has_float}
use Rattle.report_json.specs.Values.{json_line}
use Rattle.expect_json.proofs.Forms.{test_whole, on_lab}
use Rattle.expect_json.proofs.verdicts.test_json.Goals as goal

-- the value has no floats
pub json_line-requires : goal.json_line-requires
json_line-requires c =
    let lab = c.args.lab.now in
    let same = c.in_ok-value.ensures ∙ on_lab lab _ (c.as_slice.ensures.value ∙ c.in_ok-all.ensures) in
    ap has_float same ∙ test_whole lab

pub returns : goal.returns
returns c =
    let same = c.in_ok-value.ensures ∙ on_lab c.args.lab.now _ (c.as_slice.ensures.value ∙ c.in_ok-all.ensures) in
    IfOk-weaker c.json_line.result _ _ (λ text is. is ∙ ap json_line same) c.json_line.ensures
