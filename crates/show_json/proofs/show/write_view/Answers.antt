use Rattle.std.proofs.Common.{ℕ, ◌≡◌, List, Bool, ap, ◌∙◌, rules}
use Rattle.std.specs.Prelude.{Option, OnOk, slice_get}
use Rattle.std.proofs.lemmas.Result.{on_ok_weaker}
use Rattle.serde_json.specs.Data.{Data}
use Rattle.lab_tables.specs.declared.input.PeeringInput.{PeeringInput}
use Rattle.lab_report.specs.declared.lab.Place.{Place}
use Rattle.report_json.specs.Run.{holder_json, is_moving}
use Rattle.report_json.specs.Tokens.{with_value}
use Rattle.why_view.specs.Stories.{story_peering}
use Rattle.show_view.specs.Show.{holder_of}
use Rattle.show_json.specs.Sessions.{session_json}
use Rattle.show_json.specs.Show.{tables_json, view_object, view_json}
use Rattle.show_json.proofs.show.write_view.Goals as goal

pub returns : goal.returns
returns c =
    let old = c.args.out.now in
    let lab = c.args.lab.now in
    let p : ℕ × PeeringInput = (c.args.number.0, c.args.peering.now) in
    let lines = c.args.story.now.lines in
    let peering = story_peering lab.input c.args.peering.now in
    let place = c.place_at-place.result in
    let at = holder_json lab.input place in
    let routes : Data = tables_json lab (holder_of lab.input place) p peering lines in
    let session : Data = session_json peering lines in
    let there = c.place_at-place.ensures ∙ ap (λ (ps : List Place). slice_get ps c.from.result) c.as_slice.ensures
    ∙ ap (slice_get lab.placement) c.from.ensures in
    let written : OnOk c.end_object.result (c.end_object.new.self ≡ with_value (view_object at c.is_moving.result c.as_str.result.now routes session) old) =
    search (rules, c.in_ok-write_session.ensures lab.input (c.in_ok-opened.ensures lab.input)) in
    on_ok_weaker c.end_object.result
    (λ w. w ∙ ap (λ (d : Data). with_value d old) (ap (λ (b : Bool). view_object at b c.as_str.result.now routes session) c.is_moving.ensures
    ∙ ap (λ (n : List ℕ). view_object at (is_moving place) n routes session) c.as_str.ensures
    ∙ ap (λ (s : Option Place). view_json lab s p peering lines) there)) written
