use Rattle.std.proofs.Common.{List, ℕ, ◌++◌, None, refl, sym, ap, ◌∙◌, append-nil, string_bytes}
use Rattle.std.specs.FinMap as map
use Rattle.std.specs.List.{flat_map}
use Rattle.std.proofs.lemmas.Result.{on_ok_weaker}
use Rattle.bgp_story.specs.Readings.{Routes, told}
use Rattle.bgp_story.specs.States.{state_of}
use Rattle.why_view.specs.Stories.{story_peering}
use Rattle.show_view.specs.Routes.{heard_lines}
use Rattle.show_view.specs.Untold.{told_line}
use Rattle.show_view.proofs.Pieces.{behind, worded}
use Rattle.show_view.proofs.Shown.{tables_so}
use Rattle.show_view.proofs.show.push_tables_alone.Goals as goal

pub returns : goal.returns
returns c = λ lab number got.
    let text = string_bytes c.args.text.now in
    let peering = c.args.peering.now in
    let lines = c.args.story.now.lines in
    let name = c.as_str.result.now in
    let was = c.deref.result.now in
    let put = c.deref-2.result.now in
    let first : List ℕ = flat_map (heard_lines lab.input None (number, peering) lines) was in
    let further : List ℕ = flat_map (told_line name) put in
    on_ok_weaker c.push_all_told.result
    (λ last. worded text
    (tables_so lab None (number, peering) (story_peering lab.input peering) lines was name put (state_of lines) (told lines)
    (c.deref.ensures ∙ c.in_ok-heard.ensures ∙ ap (λ (routes : Routes). map.entries routes) (c.in_ok-routes_on.ensures lab.input got))
    c.as_str.ensures (c.deref-2.ensures ∙ c.in_ok-told.ensures ∙ ap (λ (routes : Routes). map.entries routes) c.in_ok-told_on.ensures) refl refl)
    (worded text (sym (append-nil (first ++ further)))
    (behind text first further (c.in_ok-push_all_heard_alone.ensures lab.input number lines) last))) c.push_all_told.ensures
