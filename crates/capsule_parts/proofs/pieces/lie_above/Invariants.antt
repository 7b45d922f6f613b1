use Rattle.std.proofs.Common.{drop}
use Rattle.capsule_parts.proofs.Joined.{AboveFrom}
use Rattle.capsule_parts.proofs.pieces.lie_above.Given as goal

-- it depends on the pieces that are left
abbrev pub invariant-loop-piece : goal.invariant-loop-piece
invariant-loop-piece l = AboveFrom l.below l.high l.pieces l.end (drop l.piece-index l.pieces)
