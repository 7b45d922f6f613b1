use Rattle.std.proofs.Common.{◌≡◌, ◌++◌, take, drop}
use Rattle.tcp_end.specs.State.{raised}
use Rattle.tcp_end.proofs.ahead.raise.Given as goal

abbrev pub invariant-loop-piece : goal.invariant-loop-piece
invariant-loop-piece l = l.piece-items ≡ raised l.base (take l.piece-index l.initial.piece-items) ++ drop l.piece-index l.initial.piece-items
