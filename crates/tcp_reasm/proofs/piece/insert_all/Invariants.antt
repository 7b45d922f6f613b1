use Rattle.std.proofs.Common.{◌≡◌, ℕ, ◌≤◌, ◌+◌, None, true, vec_len}
use Rattle.std.specs.Prelude.{is_some, vec_capacity}
use Rattle.std.specs.Option.{option_or}
use Rattle.tcp_reasm.specs.Runs.{held, AreRuns}
use Rattle.tcp_reasm.proofs.piece.insert_all.Given as goal

abbrev pub invariant-loop-piece : goal.invariant-loop-piece
invariant-loop-piece l = record {
  room : vec_len l.pieces + vec_len l.more ≤ vec_capacity l.pieces;
  runs : AreRuns 0 l.pieces.items;
  more : AreRuns 0 l.more.items;
  free : (k : ℕ) → is_some (held l.more.items k) ≡ true → held l.pieces.items k ≡ None;
  bytes : (k : ℕ) → option_or (held l.pieces.items k) (held l.more.items k) ≡ option_or (held l.initial.pieces.items k) (held l.initial.more.items k);
}

abbrev pub decreases-loop-piece : goal.decreases-loop-piece
decreases-loop-piece l = vec_len l.more
