use Rattle.graft_model.proofs.Still.{still}
use Rattle.graft_model.proofs.laws.nothing_moves_at_quiet.Goals as goal

-- src/laws.rt
pub returns-clause-still : goal.returns-clause-still
returns-clause-still c = still
