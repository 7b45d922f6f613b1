use Rattle.std.proofs.Common.{◌≡◌, map, take}
use Rattle.std.specs.List.{flat_map}
use Rattle.serde_json.specs.View.{view}
use Rattle.report_json.specs.Run.{part_json}
use Rattle.report_json.proofs.routers.path_value.Given as goal

-- the values so far are those of the parts so far
abbrev pub invariant-loop-part : goal.invariant-loop-part
invariant-loop-part l = map view l.list.items ≡ flat_map part_json (take l.part-index l.parts)
