use Rattle.std.proofs.Common.{◌≡◌, take, sum_by}
use Rattle.picture_view.specs.Positions.{lane_height}
use Rattle.picture_view.proofs.positions.lanes_height.Given as goal

-- the height so far is that of the lanes so far
abbrev pub invariant-loop-lane : goal.invariant-loop-lane
invariant-loop-lane l = l.height ≡ sum_by lane_height (take l.lane-index l.lanes)
