use Rattle.std.proofs.Common.{◌≡◌, ◌++◌, take, string_bytes}
use Rattle.std.specs.List.{flat_map}
use Rattle.picture_view.specs.Axes.{start_shape}
use Rattle.picture_view.proofs.axes.push_starts.Given as goal

-- the groups so far
abbrev pub invariant-loop-start : goal.invariant-loop-start
invariant-loop-start l = string_bytes l.text ≡ string_bytes l.initial.text ++ flat_map (start_shape l.plan) (take l.start-index l.starts)
