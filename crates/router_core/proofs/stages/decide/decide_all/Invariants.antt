use Rattle.std.specs.FinMap as map
use Rattle.ring_net.specs.Posts.{SameEdges}
use Rattle.router_core.specs.Deciding.{DecidesSome}
use Rattle.router_core.proofs.stages.decide.decide_all.Given as goal

-- some prefixes were decided
abbrev pub invariant-loop-prefix : goal.invariant-loop-prefix
invariant-loop-prefix l = DecidesSome l.initial.router l.initial.post l.router l.post × SameEdges l.initial.post l.post

-- how many are dirty
abbrev pub decreases-loop-prefix : goal.decreases-loop-prefix
decreases-loop-prefix l = map.len l.router.rib.dirty
