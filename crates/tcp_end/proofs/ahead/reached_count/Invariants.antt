use Rattle.std.proofs.Common.{◌≡◌, ◌≤◌, ◌+◌, ◌-◌, length, drop}
use Rattle.tcp_end.specs.Filling.{reached}
use Rattle.tcp_end.proofs.ahead.reached_count.Given as goal

abbrev pub invariant-loop-count : goal.invariant-loop-count
invariant-loop-count l = record {
  within : l.count ≤ length l.pieces;
  more : l.count + reached l.end (drop l.count l.pieces) ≡ reached l.fn.from l.pieces;
}

abbrev pub decreases-loop-count : goal.decreases-loop-count
decreases-loop-count l = length l.pieces - l.count
