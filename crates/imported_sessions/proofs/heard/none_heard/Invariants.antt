use Rattle.std.proofs.Common.{◌≡◌, [], map}
use Rattle.std.specs.List.{range_with_len}
use Rattle.imported_sessions.specs.Heard.{session_at}
use Rattle.imported_sessions.proofs.heard.none_heard.Given as goal

abbrev pub invariant-loop-peer : goal.invariant-loop-peer
invariant-loop-peer l = l.sessions.items ≡ map (session_at []) (range_with_len 0 l.peer)
