use Rattle.std.proofs.Common.{◌≡◌, ◌≤◌, ◌++◌, drop}
use Rattle.tcp_reasm.specs.Steps.{runs_outside}
use Rattle.tcp_reasm.proofs.piece.runs_outside.Given as goal

-- the runs so far, and then those that are still to come, are all
abbrev pub invariant-loop-piece : goal.invariant-loop-piece
invariant-loop-piece l = record {
  from : l.offset ≤ l.at;
  more : l.runs.items ++ runs_outside l.offset l.bytes l.at (drop l.piece-index l.pieces) ≡ runs_outside l.offset l.bytes l.offset l.pieces;
}
