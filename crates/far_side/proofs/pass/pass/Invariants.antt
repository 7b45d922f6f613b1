use Rattle.ring_net.specs.Posts.{SameEdges}
use Rattle.far_side.proofs.PassSteps.{PassingEach}
use Rattle.far_side.proofs.pass.pass.Given as goal

-- so many segments had their turn
abbrev pub invariant-loop-count : goal.invariant-loop-count
invariant-loop-count g l = PassingEach l.initial.way l.initial.far l.initial.post l.far l.post l.index l._count × SameEdges l.initial.post l.post
