use Rattle.std.proofs.Common.{◌++◌, map, sym, ap, ◌∙◌, append-nil}
use Rattle.std.specs.Prelude.{Option}
use Rattle.serde_json.specs.View.{view}
use Rattle.lab_report.specs.declared.lab.SessionView.{SessionView}
use Rattle.lab_report.specs.Report.{router_name}
use Rattle.view_json.specs.Timeline.{view_opening}
use Rattle.view_json.proofs.tables.push_peering_opening.Goals as goal

-- nothing is added where there is no session
pub returns-in-None : goal.returns-in-None
returns-in-None c =
    let peering = c.args.peering.now in
    sym (append-nil (map view c.args.list.now.items))
    ∙ ap (λ (session : Option SessionView).
    map view c.args.list.now.items ++ view_opening (router_name c.args.lab.now.input peering.at.0) peering.name session) c.in-None.ensures
