use Rattle.graft_actors.proofs.Rows.{router_rows, far_rows, operator_rows}
use Rattle.graft_actors.proofs.laws.rows_are_made.Goals as goal

pub returns-clause-router : goal.returns-clause-router
returns-clause-router c = router_rows

pub returns-clause-far : goal.returns-clause-far
returns-clause-far c = far_rows

pub returns-clause-operator : goal.returns-clause-operator
returns-clause-operator c = operator_rows
