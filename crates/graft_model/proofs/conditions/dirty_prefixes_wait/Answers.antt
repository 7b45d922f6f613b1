use Rattle.graft_model.proofs.Needs.{still_due}
use Rattle.graft_model.proofs.conditions.dirty_prefixes_wait.Goals as goal

-- src/conditions.rt
pub returns-clause-still_due : goal.returns-clause-still_due
returns-clause-still_due c = still_due
