use Rattle.std.proofs.Common.{ap, ◌∙◌}
use Rattle.std.specs.Prelude.{Option, slice_get}
use Rattle.std.proofs.lemmas.Result.{on_ok_weaker}
use Rattle.serde_json.specs.Data.{Data}
use Rattle.lab_report.specs.declared.lab.SessionView.{SessionView}
use Rattle.report_json.specs.Run.{if_there}
use Rattle.report_json.specs.Tokens.{with_values}
use Rattle.why_view.specs.Stories.{story_peering}
use Rattle.show_json.specs.Show.{view_json}
use Rattle.show_json.proofs.show.write_peering.Goals as goal

pub returns-in-Some : goal.returns-in-Some
returns-in-Some c =
    let lab = c.args.lab.now in
    let peering = c.args.peering.now in
    let form : SessionView → Data = λ session. view_json lab (slice_get lab.placement c.args.number.0) (c.args.number.0, peering)
    (story_peering lab.input peering) session.story.lines in
    on_ok_weaker c.write_view.result
    (λ w. w ∙ ap (λ (session : Option SessionView). with_values (if_there form session) c.args.out.now) c.in-Some.ensures) c.write_view.ensures

-- nothing is added where there is no session
pub returns-in-None : goal.returns-in-None
returns-in-None c =
    let lab = c.args.lab.now in
    let peering = c.args.peering.now in
    let form : SessionView → Data = λ session. view_json lab (slice_get lab.placement c.args.number.0) (c.args.number.0, peering)
    (story_peering lab.input peering) session.story.lines in
    ap (λ (session : Option SessionView). with_values (if_there form session) c.args.out.now) c.in-None.ensures
