use Rattle.capsule_parts.proofs.Joined.{IsJoined}
use Rattle.capsule_parts.proofs.pieces.joined.Given as goal

-- the pieces so far are joined
abbrev pub invariant-loop-piece : goal.invariant-loop-piece
invariant-loop-piece l = IsJoined l.pieces l.piece-index l.joined.items
