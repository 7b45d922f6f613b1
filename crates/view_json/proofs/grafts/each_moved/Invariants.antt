use Rattle.std.proofs.Common.{◌≡◌, map, take}
use Rattle.serde_json.specs.View.{view}
use Rattle.view_json.specs.Timeline.{moved_json}
use Rattle.view_json.proofs.grafts.each_moved.Given as goal

-- the values so far are those of the grafts so far
abbrev pub invariant-loop-graft : goal.invariant-loop-graft
invariant-loop-graft l = map view l.list.items ≡ map (moved_json l.lab l.all) (take l.graft-index l.log)
