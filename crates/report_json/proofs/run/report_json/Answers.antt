use Rattle.std.proofs.Common.{ap, ◌∙◌}
use Rattle.std.proofs.lemmas.Result.{IfOk-weaker}
use Rattle.serde_json.specs.Written.{has_float}
use Rattle.lab_report.specs.Traces.{forward_maps_of}
use Rattle.report_json.specs.Run.{report_json}
use Rattle.report_json.specs.Values.{json_line}
use Rattle.report_json.proofs.Forms.{report_whole, traces_whole}
use Rattle.report_json.proofs.run.report_json.Goals as goal

-- the value has no floats
pub json_line-requires : goal.json_line-requires
json_line-requires c =
    let lab = c.args.lab.now in
    let walks = c.in_ok-traces.ensures in
    let same = c.in_ok-value.ensures ∙ ap (report_json lab) walks.2 in
    ap has_float same ∙ report_whole lab walks.0 (traces_whole lab.input (forward_maps_of lab) lab.input.trace walks.0 walks.1)

pub returns : goal.returns
returns c =
    let walks = c.in_ok-traces.ensures in
    let same = c.in_ok-value.ensures ∙ ap (report_json c.args.lab.now) walks.2 in
    IfOk-weaker c.json_line.result _ _ (λ text is. record { traces = walks.0; traced = walks.1; is = is ∙ ap json_line same }) c.json_line.ensures
