use Rattle.std.proofs.Common.{◌≡◌, ◌++◌, length, map}
use Rattle.std.specs.Vec.Iter.{into_iter_items, into_iter_len}
use Rattle.lab_capture.specs.Captures.{captured}
use Rattle.lab_capture.proofs.timed.captured.Given as goal

-- the packets so far have their times
abbrev pub invariant-loop-packet : goal.invariant-loop-packet
invariant-loop-packet l = record {
  whole : l.yielded ++ into_iter_items l.packet-iterator ≡ into_iter_items l.initial.packet-iterator;
  many : into_iter_len l.packet-iterator ≡ length (into_iter_items l.packet-iterator);
  times : l.list.items ≡ map captured l.yielded;
}
