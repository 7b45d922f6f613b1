use Rattle.std.proofs.Common.{◌≡◌, ◌≤◌, ◌++◌, take, drop, length}
use Rattle.tcp_end.specs.Filling.{filled}
use Rattle.tcp_end.proofs.ahead.add_some.Given as goal

-- what was added so far, and then what is still to come, is the whole run
abbrev pub invariant-loop-piece : goal.invariant-loop-piece
invariant-loop-piece l = record {
  run : l.ready ++ filled l.bytes l.at (drop l.piece-index l.pieces) ≡ l.initial.ready ++ filled l.bytes 0 l.pieces;
  front : take (length l.initial.ready) l.ready ≡ l.initial.ready;
  longer : length l.initial.ready ≤ length l.ready;
}
