use Rattle.std.proofs.Common.{ℕ, List, ap, ◌∙◌}
use Rattle.std.proofs.lemmas.Result.{IfOk-weaker}
use Rattle.route_policy.specs.Candidates.{Candidate, SessionRoute}
use Rattle.lab_tables.specs.declared.input.RouterInput.{RouterInput}
use Rattle.why_view.specs.Sources.{candidates_at}
use Rattle.view_json.specs.Why.{why_fields}
use Rattle.view_json.proofs.Whys.{candidates_are}
use Rattle.view_json.proofs.why.why_of.Goals as goal

pub returns : goal.returns
returns c =
    let lab = c.args.lab.now in
    let prefix = c.args.prefix in
    let router : ℕ × RouterInput = (c.args.number.0, c.args.router.now) in
    let held = c.as_slice-held.ensures ∙ c.in_ok-sessions.ensures in
    let found = c.as_slice.ensures ∙ candidates_are lab prefix router c.as_slice-networks.result.now c.as_slice-held.result.now
    c.as_slice-beside.result.now c.in_ok-candidates.candidates c.as_slice-networks.ensures held (c.as_slice-beside.ensures ∙ c.in_ok-routers.ensures)
    c.in_ok-candidates.ensures in
    IfOk-weaker c.why_value.result _ _
    (λ v is. is
    ∙ ap (λ (name : List ℕ). why_fields lab.input prefix name c.as_slice.result.now c.as_slice-held.result.now) c.as_str-name.ensures
    ∙ ap (λ (cs : List Candidate). why_fields lab.input prefix c.args.router.now.name cs c.as_slice-held.result.now) found
    ∙ ap (λ (ss : List SessionRoute). why_fields lab.input prefix c.args.router.now.name (candidates_at lab router prefix) ss) held) c.why_value.ensures
