use Rattle.std.proofs.Common.{not, count_by}
use Rattle.forward_walk.proofs.Visits.{Goes}
use Rattle.forward_walk.proofs.forwarder.Forwarder.walk.Given as goal

abbrev pub invariant-loop-met : goal.invariant-loop-met
invariant-loop-met l = Goes l.self l.address l.fn.from l.met l.at

abbrev pub decreases-loop-met : goal.decreases-loop-met
decreases-loop-met l = count_by not l.met
