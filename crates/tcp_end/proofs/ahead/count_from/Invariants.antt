use Rattle.std.proofs.Common.{◌≡◌, ◌++◌, take, drop}
use Rattle.tcp_end.specs.State.{counted_from}
use Rattle.tcp_end.proofs.ahead.count_from.Given as goal

abbrev pub invariant-loop-piece : goal.invariant-loop-piece
invariant-loop-piece l = l.piece-items ≡ counted_from l.base (take l.piece-index l.initial.piece-items) ++ drop l.piece-index l.initial.piece-items
