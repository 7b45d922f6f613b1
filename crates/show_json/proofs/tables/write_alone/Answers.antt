use Rattle.std.proofs.Common.{ℕ, ◌≡◌, List, [], map, ap, ◌∙◌, rules}
use Rattle.std.specs.FinMap as table
use Rattle.std.specs.Prelude.{OnOk}
use Rattle.std.proofs.lemmas.Result.{on_ok_weaker}
use Rattle.serde_json.specs.Data.{Data, null}
use Rattle.bgp_story.specs.Readings.{Routes, heard}
use Rattle.report_json.specs.Tokens.{with_value}
use Rattle.report_json.specs.Values.{list_of}
use Rattle.why_view.specs.Stories.{story_peering}
use Rattle.show_json.specs.Routes.{entry_json, heard_with}
use Rattle.show_json.specs.Show.{routes_json}
use Rattle.show_json.proofs.tables.write_alone.Goals as goal

pub returns : goal.returns
returns c = λ lab number got.
    let old = c.args.out.now in
    let lines = c.args.story.now.lines in
    let peering = story_peering lab.input c.args.peering.now in
    let was = ap (λ es. list_of (map (λ e. heard_with e null) es)) (c.deref.ensures ∙ c.in_ok-heard.ensures
    ∙ ap (λ (routes : Routes). table.entries routes) (c.in_ok-routes_on.ensures lab.input got)) in
    let put = ap (λ es. list_of (map entry_json es)) (c.deref-2.ensures ∙ c.in_ok-told.ensures
    ∙ ap (λ (routes : Routes). table.entries routes) c.in_ok-told_on.ensures) in
    let written : OnOk c.end_object.result (c.end_object.new.self ≡ with_value (routes_json
    (list_of (map (λ e. heard_with e null) c.deref.result.now)) (list_of (map entry_json c.deref-2.result.now)) (list_of [])) old) = search rules in
    on_ok_weaker c.end_object.result
    (λ w. w ∙ ap (λ (d : Data). with_value d old) (ap (λ (h : Data). routes_json h (list_of (map entry_json c.deref-2.result.now)) (list_of [])) was
    ∙ ap (λ (t : Data). routes_json (list_of (map (λ e. heard_with e null) (table.entries (heard peering lines)))) t (list_of [])) put)) written
