use Rattle.std.proofs.Common.{◌≡◌, ◌≤◌, ◌+◌, ◌-◌, length, drop, take}
use Rattle.tcp_reasm.specs.Steps.{in_order, piece_bytes}
use Rattle.tcp_reasm.proofs.piece.ready.Given as goal

abbrev pub invariant-loop-count : goal.invariant-loop-count
invariant-loop-count l = record {
  within : l.count ≤ length l.pieces;
  more : l.count + in_order l.end (drop l.count l.pieces) ≡ in_order 0 l.pieces;
  bytes : l.end ≡ length (piece_bytes (take l.count l.pieces));
}

abbrev pub decreases-loop-count : goal.decreases-loop-count
decreases-loop-count l = length l.pieces - l.count
