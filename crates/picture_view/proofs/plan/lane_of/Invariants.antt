use Rattle.std.proofs.Common.{◌≡◌, take}
use Rattle.std.specs.List.{flat_map, enumerate_from}
use Rattle.picture_view.specs.Plans.{row_in}
use Rattle.picture_view.proofs.plan.lane_of.Given as goal

-- the rows of the peerings so far
abbrev pub invariant-loop-index : goal.invariant-loop-index
invariant-loop-index l = l.lane ≡ flat_map (row_in l.points l.router) (enumerate_from 0 (take l.index l.peerings))
