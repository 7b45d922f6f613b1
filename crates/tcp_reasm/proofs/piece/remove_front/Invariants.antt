use Rattle.std.proofs.Common.{◌≡◌, ℕ, ◌<◌, ◌≤◌, ◌+◌, length}
use Rattle.std.specs.Prelude.{slice_index_or}
use Rattle.tcp_seq.specs.declared.state.Piece.{Piece}
use Rattle.tcp_reasm.proofs.piece.remove_front.Given as goal

abbrev pub invariant-loop-index : goal.invariant-loop-index
invariant-loop-index l = record {
  len : length l.pieces.items ≡ length l.initial.pieces.items;
  moved : (k : ℕ) (d : Piece) → k < l.index → slice_index_or l.pieces.items k d ≡ slice_index_or l.initial.pieces.items (k + l.count) d;
  rest : (k : ℕ) (d : Piece) → l.index + l.count ≤ k → slice_index_or l.pieces.items k d ≡ slice_index_or l.initial.pieces.items k d;
}
