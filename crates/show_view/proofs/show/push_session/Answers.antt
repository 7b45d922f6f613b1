use Rattle.std.proofs.Common.{List, ℕ, ◌++◌, sym, ap, ◌∙◌, string_bytes}
use Rattle.std.proofs.lemmas.Result.{on_ok_weaker}
use Rattle.bgp_story.specs.Legal.{both_offer, got_open}
use Rattle.why_view.specs.Stories.{story_peering}
use Rattle.show_view.specs.Sessions.{before_last, closed_line, closing_words, last_of, messages_line, state_line}
use Rattle.show_view.proofs.Pieces.{behind, worded}
use Rattle.show_view.proofs.Shown.{session_so}
use Rattle.show_view.proofs.show.push_session.Goals as goal

pub returns : goal.returns
returns c =
    let peering = story_peering c.args.input.now c.args.peering.now in
    let text = string_bytes c.args.text.now in
    let name = c.as_str-name.result.now in
    let read = c.lines_of-lines.result.now in
    let expected = c.expected_last-expected.result in
    let state : List ℕ = state_line c.args.input.now c.args.peering.now.name c.args.place peering c.args.story.now.lines in
    let messages : List ℕ = messages_line name c.is_wide.result read in
    let closing : List ℕ = closed_line name (closing_words expected (last_of (before_last read)) (last_of read)) in
    on_ok_weaker c.push_closing.result
    (λ put. worded text
    (session_so state c.args.peering.now.name name peering c.args.story.now.lines read c.is_wide.result expected c.as_str-name.ensures
    (c.is_wide.ensures c.args.input.now ∙ ap (both_offer peering.first) c.requires) c.lines_of-lines.ensures.lines
    (c.expected_last-expected.ensures c.args.input.now (c.requires ∙ ap (got_open peering) (sym c.lines_of-lines.ensures.lines))))
    (behind text (state ++ messages) closing (behind text state messages c.in_ok-push_state.ensures c.in_ok-push_messages.ensures) put))
    c.push_closing.ensures
