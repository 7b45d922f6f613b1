use Rattle.std.proofs.Common.{◌≡◌, filter, take}
use Rattle.std.specs.List.{flat_map, enumerate_from}
use Rattle.timeline_view.specs.Events.{happening_at}
use Rattle.timeline_view.specs.Walks.{AreCounts, is_move}
use Rattle.timeline_view.proofs.events.happenings_in.Given as goal

-- what the entries so far tell of, the moves among them, and the counts after them
abbrev pub invariant-loop-index : goal.invariant-loop-index
invariant-loop-index l = record {
  told : l.all ≡ flat_map (happening_at l.lab l.rounds) (enumerate_from 0 (take l.index l.journal));
  moved : l.moves ≡ filter is_move (take l.index l.journal);
  counted : AreCounts l.lab (take l.index l.journal) l.counts.items;
}
