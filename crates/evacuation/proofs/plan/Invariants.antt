use Rattle.evacuation.proofs.Turns.{Planned}
use Rattle.evacuation.proofs.plan.Given as goal

-- the targets so far, and the loads that they lead to
abbrev pub invariant-loop : goal.invariant-loop
invariant-loop l = Planned l.rooms l.from.0 l.loads-2 l.loads.items l.counter l.targets
