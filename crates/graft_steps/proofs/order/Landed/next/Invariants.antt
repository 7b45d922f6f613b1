use Rattle.graft_steps.specs.Landings.{AreAllAsked}
use Rattle.graft_steps.proofs.order.Landed.next.Given as goal

-- all before this one are the source and the target
abbrev pub invariant-loop-router : goal.invariant-loop-router
invariant-loop-router l = AreAllAsked l.source l.target l.router l.self.next
