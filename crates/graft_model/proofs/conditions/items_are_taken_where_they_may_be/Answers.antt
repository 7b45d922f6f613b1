use Rattle.graft_model.proofs.Takes.{router_takes}
use Rattle.graft_model.proofs.conditions.items_are_taken_where_they_may_be.Goals as goal

-- src/conditions.rt
pub returns-clause-router : goal.returns-clause-router
returns-clause-router c = router_takes
