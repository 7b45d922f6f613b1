use Rattle.std.proofs.Common.{◌≡◌, take}
use Rattle.std.specs.List.{flat_map, enumerate_from}
use Rattle.why_view.specs.Sources.{session_at}
use Rattle.why_view.proofs.sources.sessions_at.Given as goal

-- what the sessions of the peerings so far bring in
abbrev pub invariant-loop-index : goal.invariant-loop-index
invariant-loop-index l = l.sessions ≡ flat_map (session_at l.lab (l.number.0, l.router) l.prefix) (enumerate_from 0 (take l.index l.peerings))
