use Rattle.std.proofs.Common.{◌≡◌, map, take}
use Rattle.std.specs.List.{enumerate_from}
use Rattle.serde_json.specs.View.{view}
use Rattle.report_json.specs.Run.{router_json}
use Rattle.report_json.proofs.routers.routers_value.Given as goal

-- the values so far are those of the routers so far
abbrev pub invariant-loop-index : goal.invariant-loop-index
invariant-loop-index l = map view l.list.items ≡ map (router_json l.lab.input l.tables) (enumerate_from 0 (take l.index l.routers))
