use Rattle.std.proofs.Common.{ℕ, ◌≡◌, List, Some, map, ap, ◌∙◌, rules}
use Rattle.std.specs.FinMap as table
use Rattle.std.specs.Prelude.{OnOk}
use Rattle.std.proofs.lemmas.Result.{on_ok_weaker}
use Rattle.serde_json.specs.Data.{Data}
use Rattle.bgp_types.specs.declared.message.SessionState.{SessionState}
use Rattle.bgp_story.specs.Readings.{Routes, heard, told}
use Rattle.bgp_story.specs.States.{state_of}
use Rattle.lab_tables.specs.declared.input.PeeringInput.{PeeringInput}
use Rattle.lab_tables.specs.declared.input.RouterInput.{RouterInput}
use Rattle.report_json.specs.Tokens.{with_value}
use Rattle.report_json.specs.Values.{list_of}
use Rattle.why_view.specs.Stories.{story_peering}
use Rattle.show_json.specs.Routes.{entry_json, heard_json, all_untold}
use Rattle.show_json.specs.Show.{routes_json}
use Rattle.show_json.proofs.tables.write_held.Goals as goal

pub returns : goal.returns
returns c =
    let old = c.args.out.now in
    let lab = c.args.lab.now in
    let holder : ℕ × RouterInput = (c.args.holder.0, c.args.router.now) in
    let p : ℕ × PeeringInput = (c.args.number.0, c.args.peering.now) in
    let lines = c.args.story.now.lines in
    let peering = story_peering lab.input c.args.peering.now in
    let form = heard_json lab.input (Some holder) p lines in
    let got = ap (λ es. list_of (map form es)) (c.deref.ensures ∙ c.in_ok-heard.ensures
    ∙ ap (λ (routes : Routes). table.entries routes) (c.in_ok-routes_on.ensures lab.input c.requires)) in
    let put = ap (λ es. list_of (map entry_json es)) (c.deref-2.ensures ∙ c.in_ok-told.ensures
    ∙ ap (λ (routes : Routes). table.entries routes) c.in_ok-rib.ensures) in
    let left = ap (λ (s : SessionState). list_of (all_untold lab (Some holder) p s c.in_ok-rib.rib)) c.state-state.ensures
    ∙ ap (λ (routes : Routes). list_of (all_untold lab (Some holder) p (state_of lines) routes)) c.in_ok-rib.ensures in
    let all = list_of (all_untold lab (Some holder) p c.state-state.result c.in_ok-rib.rib) in
    let written : OnOk c.end_object.result (c.end_object.new.self ≡ with_value (routes_json
    (list_of (map form c.deref.result.now)) (list_of (map entry_json c.deref-2.result.now)) all) old) =
    search (rules, c.in_ok-write_all_heard.ensures holder p.0 lines c.in_ok-import.ensures) in
    on_ok_weaker c.end_object.result
    (λ w. w ∙ ap (λ (d : Data). with_value d old) (ap (λ (h : Data). routes_json h (list_of (map entry_json c.deref-2.result.now)) all) got
    ∙ ap (λ (t : Data). routes_json (list_of (map form (table.entries (heard peering lines)))) t all) put
    ∙ ap (routes_json (list_of (map form (table.entries (heard peering lines)))) (list_of (map entry_json (table.entries (told lines))))) left)) written
