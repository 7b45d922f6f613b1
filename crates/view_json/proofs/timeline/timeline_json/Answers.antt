use Rattle.std.proofs.Common.{ap, ◌∙◌}
use Rattle.std.proofs.lemmas.Result.{IfOk-weaker}
use Rattle.serde_json.specs.Written.{has_float}
use Rattle.report_json.specs.Values.{json_line}
use Rattle.view_json.specs.Timeline.{timeline_of}
use Rattle.view_json.proofs.Forms.{timeline_whole}
use Rattle.view_json.proofs.timeline.timeline_json.Goals as goal

-- the value has no floats
pub json_line-requires : goal.json_line-requires
json_line-requires c =
    let same = c.in_ok-value.ensures ∙ ap (timeline_of c.args.lab.now) (c.as_slice-2.ensures ∙ c.in_ok-all.ensures) in
    ap has_float same ∙ timeline_whole c.args.lab.now

pub returns : goal.returns
returns c =
    let same = c.in_ok-value.ensures ∙ ap (timeline_of c.args.lab.now) (c.as_slice-2.ensures ∙ c.in_ok-all.ensures) in
    IfOk-weaker c.json_line.result _ _ (λ text is. is ∙ ap json_line same) c.json_line.ensures
