use Rattle.std.proofs.Common.{length}
use Rattle.router_core.proofs.BeginSteps.{Begun}
use Rattle.router_core.proofs.stages.begin.begin_places.Given as goal

-- some sessions begin, and the others have begun
abbrev pub invariant-loop-config : goal.invariant-loop-config
invariant-loop-config l = Begun l.fn.count l.fn.room l.fn.sessions l.left.items l.places

abbrev pub decreases-loop-config : goal.decreases-loop-config
decreases-loop-config l = length l.left.items
