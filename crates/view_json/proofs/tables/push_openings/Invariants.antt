use Rattle.std.proofs.Common.{◌≡◌, ◌++◌, map, take}
use Rattle.std.specs.List.{flat_map, enumerate_from}
use Rattle.serde_json.specs.View.{view}
use Rattle.view_json.specs.Timeline.{opening_json}
use Rattle.view_json.proofs.tables.push_openings.Given as goal

-- the values so far are those of the peerings so far
abbrev pub invariant-loop-index : goal.invariant-loop-index
invariant-loop-index l = map view l.list.items ≡ map view l.initial.list.items
    ++ flat_map (opening_json l.lab.input l.lab.sessions) (enumerate_from 0 (take l.index l.peerings))
