use Rattle.std.proofs.Common.{◌≡◌, ◌++◌, take, string_bytes}
use Rattle.std.specs.List.{flat_map}
use Rattle.timeline_view.specs.Grafts.{graft_lines}
use Rattle.timeline_view.proofs.grafts.push_each_graft.Given as goal

-- the text so far is that of the grafts so far
abbrev pub invariant-loop-graft : goal.invariant-loop-graft
invariant-loop-graft l = string_bytes l.text ≡ string_bytes l.initial.text ++ flat_map (graft_lines l.lab l.all) (take l.graft-index l.log)
