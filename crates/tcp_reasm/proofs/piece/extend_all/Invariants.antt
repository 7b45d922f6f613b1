use Rattle.std.proofs.Common.{◌≡◌, ◌≤◌, ◌+◌, ◌++◌, length, drop, take, vec_len}
use Rattle.std.specs.Prelude.{vec_capacity}
use Rattle.tcp_reasm.specs.Steps.{piece_bytes}
use Rattle.tcp_reasm.proofs.piece.extend_all.Given as goal

abbrev pub invariant-loop-piece : goal.invariant-loop-piece
invariant-loop-piece l = record {
  room : vec_len l.out + length (piece_bytes (drop l.piece-index l.pieces)) ≤ vec_capacity l.out;
  bytes : l.out.items ≡ l.fn.out.items ++ piece_bytes (take l.piece-index l.pieces);
}
