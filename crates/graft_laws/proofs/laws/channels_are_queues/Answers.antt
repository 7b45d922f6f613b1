use Rattle.graft_laws.proofs.Moves.{router_moves, far_moves, operator_moves}
use Rattle.graft_laws.proofs.laws.channels_are_queues.Goals as goal

pub returns-clause-router : goal.returns-clause-router
returns-clause-router c = router_moves

pub returns-clause-far : goal.returns-clause-far
returns-clause-far c = far_moves

pub returns-clause-operator : goal.returns-clause-operator
returns-clause-operator c = operator_moves
