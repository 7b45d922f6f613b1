use Rattle.std.proofs.Common.{[], ◌<◌, length, arith}
use Rattle.timeline_view.specs.Messages.{head_in}
use Rattle.story_view.proofs.Steps.{numbered_more, state_more}
use Rattle.timeline_view.proofs.outline.heads.Goals as goal

-- one line more
pub loop-index-preserved : goal.loop-index-preserved
loop-index-preserved c =
    let below : c.loop-index.index < length c.args.lines.now = omega (arith, c.loop-index-test.true) in
    record {
      found = numbered_more (head_in c.args.lines.now) c.args.lines.now c.loop-index.index c.index-lines-index.result [] _ _ below c.index-lines-index.is
          c.loop-index.invariant.found c.in_ok-push_head.ensures;
      state = state_more c.args.lines.now c.loop-index.index c.index-lines-index.result _ _ below c.index-lines-index.is c.loop-index.invariant.state
          c.after-state.ensures;
    }
