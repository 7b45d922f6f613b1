use Rattle.std.proofs.Common.{◌<◌, length, arith}
use Rattle.timeline_view.proofs.Numbered.{read_at}
use Rattle.timeline_view.proofs.Told.{told_more, moves_more, counts_more}
use Rattle.timeline_view.proofs.events.happenings_in.Goals as goal

-- one entry more
pub loop-index-preserved : goal.loop-index-preserved
loop-index-preserved c =
    let lab = c.args.lab.now in
    let rounds = c.args.rounds.now in
    let journal = c.args.journal.now in
    let i = c.loop-index.index in
    let below : i < length journal = omega (arith, c.loop-index-test.true) in
    record {
      told = told_more lab rounds journal c.requires i _ below (read_at journal i _ below) _ _ _ _ c.round_at-round.ensures c.in_ok-event.ensures
          c.loop-index.invariant.told c.in_ok-push_event.ensures;
      moved = moves_more lab rounds journal c.requires i _ below (read_at journal i _ below) _ _ c.loop-index.invariant.moved c.in_ok-push_move.ensures;
      counted = counts_more lab rounds journal c.requires i _ below (read_at journal i _ below) _ c.in_ok-count.ensures;
    }
