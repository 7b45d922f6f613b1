use Rattle.std.proofs.Common.{◌≡◌, ◌++◌, map, take}
use Rattle.std.specs.List.{flat_map, enumerate_from}
use Rattle.serde_json.specs.View.{view}
use Rattle.view_json.specs.Timeline.{router_counts}
use Rattle.view_json.proofs.tables.push_each_table.Given as goal

-- the values so far are those of the rounds so far
abbrev pub invariant-loop-round : goal.invariant-loop-round
invariant-loop-round l = map view l.list.items ≡ map view l.initial.list.items
    ++ flat_map (λ m. flat_map (router_counts m.0 m.1) (enumerate_from 0 l.routers)) (enumerate_from 0 (take l.round l.rounds))
