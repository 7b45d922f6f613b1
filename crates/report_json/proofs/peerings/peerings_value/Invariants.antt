use Rattle.std.proofs.Common.{◌≡◌, map, take}
use Rattle.std.specs.List.{flat_map, enumerate_from}
use Rattle.serde_json.specs.View.{view}
use Rattle.report_json.specs.Run.{peering_json}
use Rattle.report_json.proofs.peerings.peerings_value.Given as goal

-- the values so far are those of the peerings so far
abbrev pub invariant-loop-index : goal.invariant-loop-index
invariant-loop-index l =
    map view l.list.items ≡ flat_map (peering_json l.lab.input l.lab.sessions l.lab.placement) (enumerate_from 0 (take l.index l.peerings))
