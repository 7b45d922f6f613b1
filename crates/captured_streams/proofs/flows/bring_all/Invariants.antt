use Rattle.std.proofs.Common.{◌≡◌, ◌≤◌, length, take}
use Rattle.std.specs.Prelude.{count_by}
use Rattle.captured_streams.specs.Flows.{AreFlows, none_begun}
use Rattle.captured_streams.specs.Peers.{is_other}
use Rattle.captured_streams.proofs.flows.bring_all.Given as goal

abbrev pub invariant-loop-segment : goal.invariant-loop-segment
invariant-loop-segment l = record {
  flows : AreFlows l.peers.list (none_begun l.peers.list) (take l.segment-index l.segments) l.all.flows l.all.streams.items;
  len : length l.all.streams.items ≡ length l.peers.list;
  others : l.all.others ≡ count_by (is_other l.peers.list) (take l.segment-index l.segments);
  within : l.all.others ≤ l.segment-index;
}
