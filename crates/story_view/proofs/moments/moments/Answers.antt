use Rattle.std.proofs.Common.{◌<◌, length, get_or, arith}
use Rattle.ring_net.specs.declared.entry.JournalEntry.{JournalEntry}
use Rattle.entry_rounds.proofs.Walks.{element}
use Rattle.story_view.specs.Story.{moments_in}
use Rattle.story_view.proofs.Steps.{numbered_more}
use Rattle.story_view.proofs.moments.moments.Goals as goal

-- one entry more
pub loop-index-preserved : goal.loop-index-preserved
loop-index-preserved c =
    let journal = c.args.journal.now in
    let i = c.loop-index.index in
    let none : JournalEntry = record { clock = 0; actor = 0; kind = 0; a = 0; b = 0; c = 0 } in
    let below : i < length journal = omega (arith, c.loop-index-test.true) in
    numbered_more (moments_in c.args.peering c.args.rounds.now) journal i (get_or journal i none) _ _ _ below (element journal i none below)
    c.loop-index.invariant c.in_ok-push_event.ensures
