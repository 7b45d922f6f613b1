use Rattle.ring_net.specs.Posts.{SameEdges}
use Rattle.router_core.specs.Visits.{Visited}
use Rattle.router_core.proofs.stages.visit.visit_all.Given as goal

-- so many places had their turn
abbrev pub invariant-loop-n : goal.invariant-loop-n
invariant-loop-n g l = Visited (g.V.Visit.stage l.fn.stage) l.n l.fn.router l.fn.post l.router l.post × SameEdges l.fn.post l.post
