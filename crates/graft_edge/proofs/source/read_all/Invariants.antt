use Rattle.std.proofs.Common.{◌≡◌, ◌+◌, ◌-◌, ◌≤◌, length}
use Rattle.graft_edge.specs.Outside.{Took}
use Rattle.graft_edge.proofs.source.read_all.Given as goal

-- what was taken so far is kept, and isn't too much
abbrev pub invariant-loop-bytes : goal.invariant-loop-bytes
invariant-loop-bytes g l = record {
  steady : g.S.Source.faults l.initial.source ≤ g.S.Source.faults l.source;
  taken : Took (g.S.Source.left l.initial.source) (g.S.Source.left l.source) l.bytes;
  few : length l.bytes ≤ l.most;
  room : length l.buf ≡ 4096;
}

-- how many more bytes may be taken
abbrev pub decreases-loop-bytes : goal.decreases-loop-bytes
decreases-loop-bytes g l = l.most + 1 - length l.bytes
