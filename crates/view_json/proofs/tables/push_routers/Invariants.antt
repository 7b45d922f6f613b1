use Rattle.std.proofs.Common.{◌≡◌, ◌++◌, map, take}
use Rattle.std.specs.List.{flat_map, enumerate_from}
use Rattle.serde_json.specs.View.{view}
use Rattle.view_json.specs.Timeline.{router_counts}
use Rattle.view_json.proofs.tables.push_routers.Given as goal

-- the values so far are those of the routers so far
abbrev pub invariant-loop-index : goal.invariant-loop-index
invariant-loop-index l = map view l.list.items ≡ map view l.initial.list.items
    ++ flat_map (router_counts l.round l.here) (enumerate_from 0 (take l.index l.routers))
