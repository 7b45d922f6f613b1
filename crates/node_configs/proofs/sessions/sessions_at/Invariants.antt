use Rattle.std.proofs.Common.{◌≡◌, take}
use Rattle.std.specs.List.{enumerate_from, flat_map}
use Rattle.node_configs.specs.Tables.{session_if}
use Rattle.node_configs.proofs.sessions.sessions_at.Given as goal

abbrev pub invariant-loop-i : goal.invariant-loop-i
invariant-loop-i l = l.sessions ≡ flat_map (session_if l.input l.router.0) (enumerate_from 0 (take l.i l.input.peerings))
