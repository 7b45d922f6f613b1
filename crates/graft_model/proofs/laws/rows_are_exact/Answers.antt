use Rattle.graft_model.proofs.OneOutcome.{one_router}
use Rattle.graft_model.proofs.FarOutcome.{one_far}
use Rattle.graft_model.proofs.OperatorOutcome.{one_operator}
use Rattle.graft_model.proofs.laws.rows_are_exact.Goals as goal

pub returns-clause-router : goal.returns-clause-router
returns-clause-router c = one_router

pub returns-clause-far : goal.returns-clause-far
returns-clause-far c = one_far

pub returns-clause-operator : goal.returns-clause-operator
returns-clause-operator c = one_operator
