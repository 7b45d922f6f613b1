use Rattle.std.proofs.Common.{◌≡◌, ◌++◌, take, string_bytes}
use Rattle.std.specs.List.{flat_map}
use Rattle.picture_view.specs.Axes.{row_name}
use Rattle.picture_view.proofs.axes.push_row_names.Given as goal

-- the names so far
abbrev pub invariant-loop-peering : goal.invariant-loop-peering
invariant-loop-peering l = string_bytes l.text ≡ string_bytes l.initial.text ++ flat_map (row_name l.input l.plan l.x l.router) (take l.peering-index l.lane)
