use Rattle.evacuation.proofs.Turns.{IsLeastSoFar}
use Rattle.evacuation.proofs.least_loaded.Given as goal

-- the least loaded of the routers so far
abbrev pub invariant-loop-router : goal.invariant-loop-router
invariant-loop-router l = IsLeastSoFar l.loads l.rooms l.from.0 l.router l.least
