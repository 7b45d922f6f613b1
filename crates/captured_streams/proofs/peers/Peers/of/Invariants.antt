use Rattle.std.proofs.Common.{◌≡◌, take}
use Rattle.captured_streams.specs.Numbered.{IsNumbered}
use Rattle.captured_streams.specs.Peers.{peers}
use Rattle.captured_streams.proofs.peers.Peers.of.Given as goal

abbrev pub invariant-loop-segment : goal.invariant-loop-segment
invariant-loop-segment l = record {
  list : l.list ≡ peers (take l.segment-index l.segments);
  numbered : IsNumbered l.list l.numbers;
}
