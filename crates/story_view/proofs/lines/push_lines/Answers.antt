use Rattle.std.proofs.Common.{◌<◌, ◌++◌, length, ap, ◌∙◌, string_bytes, arith}
use Rattle.story_view.specs.Story.{story_line}
use Rattle.story_view.proofs.Steps.{numbered_more, events_more, state_more, line_is}
use Rattle.story_view.proofs.lines.push_lines.Goals as goal

-- one line more
pub loop-index-preserved : goal.loop-index-preserved
loop-index-preserved c =
    let lines = c.args.lines.now in
    let i = c.loop-index.index in
    let line = c.index-lines-index.result in
    let below : i < length lines = omega (arith, c.loop-index-test.true) in
    let events = events_more lines i line _ _ below c.index-lines-index.is c.loop-index.invariant.events c.counted-events.ensures in
    let is = line_is c.args.input.now c.args.all.now c.args.opening c.args.first.now lines i line _ _ _ _ _ c.moment_at-moment.ensures events
    c.expected_in-expected.ensures c.loop-index.invariant.state c.is_ended-ended.ensures in
    record {
      text = numbered_more (story_line c.args.input.now c.args.all.now c.args.opening c.args.first.now lines) lines i line _ _ _ below c.index-lines-index.is
          c.loop-index.invariant.text (c.in_ok-push_line.ensures ∙ ap (λ t. string_bytes c.loop-index.text ++ t) is);
      events = events;
      few = grind (arith, c.loop-index.invariant.few, c.counted-events.ensures);
      state = state_more lines i line _ _ below c.index-lines-index.is c.loop-index.invariant.state c.after-state.ensures;
    }
