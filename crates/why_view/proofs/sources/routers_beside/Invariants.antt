use Rattle.std.proofs.Common.{◌≡◌, take}
use Rattle.std.specs.List.{flat_map, enumerate_from}
use Rattle.why_view.specs.Sources.{router_at}
use Rattle.why_view.proofs.sources.routers_beside.Given as goal

-- what the routers so far give
abbrev pub invariant-loop-index : goal.invariant-loop-index
invariant-loop-index l = l.routers ≡ flat_map (router_at l.lab l.number.0 l.prefix) (enumerate_from 0 (take l.index l.others))
