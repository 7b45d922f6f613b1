use Rattle.std.proofs.Common.{◌≡◌, ◌++◌, take, drop}
use Rattle.tcp_reasm.specs.Steps.{lowered}
use Rattle.tcp_reasm.proofs.piece.lower.Given as goal

abbrev pub invariant-loop-piece : goal.invariant-loop-piece
invariant-loop-piece l = l.piece-items ≡ lowered l.by (take l.piece-index l.initial.piece-items) ++ drop l.piece-index l.initial.piece-items
