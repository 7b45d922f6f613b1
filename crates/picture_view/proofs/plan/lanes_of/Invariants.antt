use Rattle.std.proofs.Common.{◌≡◌, map}
use Rattle.std.specs.List.{range_with_len}
use Rattle.picture_view.specs.Plans.{lane_of}
use Rattle.picture_view.proofs.plan.lanes_of.Given as goal

-- the lanes of the routers so far
abbrev pub invariant-loop-router : goal.invariant-loop-router
invariant-loop-router l = l.lanes ≡ map (lane_of l.peerings l.points) (range_with_len 0 l.router)
