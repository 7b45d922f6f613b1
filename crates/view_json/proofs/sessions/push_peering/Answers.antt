use Rattle.std.proofs.Common.{ℕ, List, ◌∷◌, [], ◌++◌, map, sym, ap, ◌∙◌}
use Rattle.std.specs.Prelude.{Option}
use Rattle.std.proofs.lemmas.Result.{on_ok_weaker}
use Rattle.serde_json.specs.View.{view}
use Rattle.lab_report.specs.declared.lab.SessionView.{SessionView}
use Rattle.report_json.specs.Run.{if_there}
use Rattle.report_json.proofs.Listed.{none_there}
use Rattle.view_json.specs.Timeline.{session_json}
use Rattle.view_json.proofs.sessions.push_peering.Goals as goal

pub returns-in-Some : goal.returns-in-Some
returns-in-Some c =
    let values = map view c.args.list.now.items in
    on_ok_weaker c.push_session.result
    (λ put. put ∙ ap (λ (name : List ℕ). values ++ session_json name c.in-Some.session.now ∷ []) c.as_str.ensures
    ∙ ap (λ (session : Option SessionView). values ++ if_there (session_json c.args.peering.now.name) session) c.in-Some.ensures) c.push_session.ensures

-- nothing is added where there is no session
pub returns-in-None : goal.returns-in-None
returns-in-None c = none_there (session_json c.args.peering.now.name) (map view c.args.list.now.items) _ (sym c.in-None.ensures)
