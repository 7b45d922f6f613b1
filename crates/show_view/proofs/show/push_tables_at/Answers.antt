use Rattle.std.proofs.Common.{List, ℕ, ◌++◌, Some, ap, ◌∙◌, string_bytes}
use Rattle.std.specs.FinMap as map
use Rattle.std.specs.List.{flat_map}
use Rattle.std.proofs.lemmas.Result.{on_ok_weaker}
use Rattle.bgp_story.specs.Readings.{Routes}
use Rattle.lab_tables.specs.declared.input.PeeringInput.{PeeringInput}
use Rattle.lab_tables.specs.declared.input.RouterInput.{RouterInput}
use Rattle.why_view.specs.Stories.{story_peering}
use Rattle.show_view.specs.Routes.{heard_lines}
use Rattle.show_view.specs.Untold.{told_line, untold_lines}
use Rattle.show_view.proofs.Pieces.{behind, worded}
use Rattle.show_view.proofs.Shown.{tables_so}
use Rattle.show_view.proofs.show.push_tables_at.Goals as goal

pub returns : goal.returns
returns c =
    let text = string_bytes c.args.text.now in
    let lab = c.args.lab.now in
    let holder : ℕ × RouterInput = (c.args.holder.0, c.args.router.now) in
    let p : ℕ × PeeringInput = (c.args.number.0, c.args.peering.now) in
    let lines = c.args.story.now.lines in
    let name = c.as_str.result.now in
    let was = c.deref.result.now in
    let put = c.deref-3.result.now in
    let first : List ℕ = flat_map (heard_lines lab.input (Some holder) p lines) was in
    let further : List ℕ = flat_map (told_line name) put in
    on_ok_weaker c.push_untold.result
    (λ last. worded text
    (tables_so lab (Some holder) p (story_peering lab.input p.1) lines was name put c.state.result c.in_ok-told.told
    (c.deref.ensures ∙ c.in_ok-heard.ensures ∙ ap (λ (routes : Routes). map.entries routes) (c.in_ok-routes_on.ensures lab.input c.requires))
    c.as_str.ensures (c.deref-3.ensures ∙ c.in_ok-entries_of.ensures ∙ ap (λ (routes : Routes). map.entries routes) c.in_ok-told.ensures)
    c.state.ensures c.in_ok-told.ensures)
    (behind text (first ++ further) (untold_lines lab (Some holder) p c.state.result c.in_ok-told.told)
    (behind text first further (c.in_ok-push_all_heard.ensures holder p.0 lines c.in_ok-import.ensures) c.in_ok-push_all_told.ensures) last))
    c.push_untold.ensures
