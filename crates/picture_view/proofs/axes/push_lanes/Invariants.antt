use Rattle.std.proofs.Common.{◌≡◌, ◌++◌, take, string_bytes}
use Rattle.std.specs.List.{flat_map, enumerate_from}
use Rattle.picture_view.specs.Axes.{lane_shape}
use Rattle.picture_view.proofs.axes.push_lanes.Given as goal

-- the lanes so far
abbrev pub invariant-loop-router : goal.invariant-loop-router
invariant-loop-router l = string_bytes l.text ≡ string_bytes l.initial.text ++ flat_map (lane_shape l.plan) (enumerate_from 0 (take l.router l.lanes))
