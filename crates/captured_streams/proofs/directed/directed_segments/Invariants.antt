use Rattle.std.proofs.Common.{◌≡◌, ◌<◌, ◌≤◌, ◌^◌, length, take}
use Rattle.std.specs.Prelude.{count_by}
use Rattle.std.specs.List.{All}
use Rattle.captured_streams.specs.Directed.{directed}
use Rattle.captured_streams.specs.Readings.{is_fragment}
use Rattle.captured_streams.proofs.directed.directed_segments.Given as goal

abbrev pub invariant-loop-packet : goal.invariant-loop-packet
invariant-loop-packet l = record {
  segments : l.segments ≡ directed l.home (take l.packet-index l.packets);
  fragments : l.fragments ≡ count_by is_fragment (take l.packet-index l.packets);
  short : All (λ s. length s.segment.octets < 2 ^ 16) l.segments;
  within : l.fragments ≤ l.packet-index;
}
