use Rattle.router_core.proofs.RestSteps.{LowestBelow}
use Rattle.router_core.proofs.outstanding.lowest_graft.Given as goal

-- the lowest number of a graft at the first so many
abbrev pub invariant-loop-n : goal.invariant-loop-n
invariant-loop-n l = LowestBelow l.places.places l.n l.lowest
