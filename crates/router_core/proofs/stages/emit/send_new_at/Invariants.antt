use Rattle.std.proofs.Common.{◌<◌, length}
use Rattle.ring_net.specs.Posts.{SameEdges}
use Rattle.router_core.specs.Places.{place_at}
use Rattle.router_core.specs.Visits.{Visits, slicing}
use Rattle.router_core.proofs.EachPlace.{left_at}
use Rattle.router_core.proofs.stages.emit.send_new_at.Given as goal

-- some new slices were sent
abbrev pub invariant-loop-segment : goal.invariant-loop-segment
invariant-loop-segment l =
    Visits slicing l.fn.n l.initial.router l.initial.post l.router l.post × SameEdges l.initial.post l.post × (l.fn.n < length l.router.places.places)

-- how much isn't emitted yet
abbrev pub decreases-loop-segment : goal.decreases-loop-segment
decreases-loop-segment l = left_at (place_at l.router.places.places l.fn.n)
