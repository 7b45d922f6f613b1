use Rattle.std.proofs.Common.{◌≡◌, ◌++◌, take, string_bytes}
use Rattle.std.specs.List.{flat_map, enumerate_from}
use Rattle.picture_view.specs.Axes.{lane_names}
use Rattle.picture_view.proofs.axes.push_all_names.Given as goal

-- the names so far
abbrev pub invariant-loop-router : goal.invariant-loop-router
invariant-loop-router l =
    string_bytes l.text ≡ string_bytes l.initial.text ++ flat_map (lane_names l.input l.plan l.x) (enumerate_from 0 (take l.router l.lanes))
