use Rattle.std.proofs.Common.{ℕ, ◌≡◌, List, Some, ◌++◌, map, sym, ap, ◌∙◌, append-nil, slice_get}
use Rattle.std.specs.Prelude.{Option}
use Rattle.std.proofs.lemmas.Result.{on_ok_weaker}
use Rattle.serde_json.specs.Data.{Data}
use Rattle.serde_json.specs.View.{view}
use Rattle.lab_report.specs.declared.lab.SessionView.{SessionView}
use Rattle.lab_report.specs.Report.{peering_name}
use Rattle.timeline_view.specs.declared.outline.Outline.{Outline}
use Rattle.timeline_view.specs.Messages.{outline_of}
use Rattle.view_json.specs.Events.{messages_at, messages_json}
use Rattle.view_json.proofs.Outlined.{outline_is, no_session}
use Rattle.view_json.proofs.events.push_messages.Goals as goal

-- nothing is added where there is no session
pub returns-in_default : goal.returns-in_default
returns-in_default c =
    let form : Option SessionView → List Data = messages_json c.args.round c.args.name.now (peering_name c.args.lab.now.input c.args.peering) c.args.nth in
    sym (append-nil (map view c.args.list.now.items)) ∙ ap (λ s. map view c.args.list.now.items ++ form s) c.in_default.ensures

pub returns-in_default-outline_at : goal.returns-in_default-outline_at
returns-in_default-outline_at c =
    let lab = c.args.lab.now in
    let form : Option SessionView → List Data = messages_json c.args.round c.args.name.now (peering_name lab.input c.args.peering) c.args.nth in
    sym (append-nil (map view c.args.list.now.items))
    ∙ ap (λ s. map view c.args.list.now.items ++ form s) (no_session lab.sessions c.args.outlines.now c.requires c.args.peering c.in_default-outline_at.ensures)

-- the session has the outline of its number
pub push_session-requires : goal.push_session-requires
push_session-requires c =
    outline_is c.args.lab.now.sessions c.args.outlines.now c.requires c.args.peering c.in-Some.session.now c.in-Some-outline_at.outline.now
    c.in-Some.ensures c.in-Some-outline_at.ensures

pub returns : goal.returns
returns c =
    let lab = c.args.lab.now in
    let values = map view c.args.list.now.items in
    let session = c.in-Some.session.now in
    let outline = c.in-Some-outline_at.outline.now in
    let is : outline ≡ outline_of session.story =
    outline_is lab.sessions c.args.outlines.now c.requires c.args.peering session outline c.in-Some.ensures c.in-Some-outline_at.ensures in
    let at : List ℕ → Outline → List Data =
    λ remote o. messages_at c.args.round c.args.name.now remote session.story.lines o.expected (slice_get o.heads c.args.nth) in
    let form : Option SessionView → List Data = messages_json c.args.round c.args.name.now (peering_name lab.input c.args.peering) c.args.nth in
    on_ok_weaker c.push_session.result
    (λ put. put ∙ ap (λ remote. values ++ at remote outline) c.remote_name-remote.ensures
    ∙ ap (λ o. values ++ at (peering_name lab.input c.args.peering) o) is ∙ ap (λ s. values ++ form s) c.in-Some.ensures) c.push_session.ensures
