use Rattle.settled_check.proofs.Actors.{router_first, far_first, operator_first}
use Rattle.settled_check.proofs.laws.rests_tell_what_is_left.Goals as goal

pub returns-clause-router : goal.returns-clause-router
returns-clause-router c = router_first

pub returns-clause-far : goal.returns-clause-far
returns-clause-far c = far_first

pub returns-clause-operator : goal.returns-clause-operator
returns-clause-operator c = operator_first
