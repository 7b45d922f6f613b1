use Rattle.std.proofs.Common.{◌-◌, ◌≤◌, length, take}
use Rattle.graft_edge.specs.Outside.{Appended}
use Rattle.graft_edge.proofs.sink.write_all.Given as goal

-- the bytes up to here were appended
abbrev pub invariant-loop-at : goal.invariant-loop-at
invariant-loop-at g l = record {
  steady : g.K.Sink.faults l.initial.sink ≤ g.K.Sink.faults l.sink;
  within : l.at ≤ length l.bytes;
  appended : Appended (g.K.Sink.written l.initial.sink) (g.K.Sink.written l.sink) (take l.at l.bytes);
}

abbrev pub decreases-loop-at : goal.decreases-loop-at
decreases-loop-at g l = length l.bytes - l.at
