use Rattle.std.proofs.Common.{◌-◌, length}
use Rattle.ring_net.specs.Posts.{SameEdges}
use Rattle.far_side.proofs.EmitSteps.{FreshlyEach}
use Rattle.far_side.proofs.emit.send_fresh.Given as goal

-- so many new slices were sent
abbrev pub invariant-loop-segment : goal.invariant-loop-segment
invariant-loop-segment g l = FreshlyEach l.initial.far l.initial.post l.far l.post × SameEdges l.initial.post l.post

-- how much isn't emitted yet
abbrev pub decreases-loop-segment : goal.decreases-loop-segment
decreases-loop-segment g l = length l.far.remote.end.stream - l.far.remote.end.emitted
