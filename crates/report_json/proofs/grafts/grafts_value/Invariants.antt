use Rattle.std.proofs.Common.{◌≡◌, map, take}
use Rattle.serde_json.specs.View.{view}
use Rattle.report_json.specs.Run.{graft_json}
use Rattle.report_json.proofs.grafts.grafts_value.Given as goal

-- the values so far are those of the grafts so far
abbrev pub invariant-loop-graft : goal.invariant-loop-graft
invariant-loop-graft l = map view l.list.items ≡ map (graft_json l.lab.input) (take l.graft-index l.log)
