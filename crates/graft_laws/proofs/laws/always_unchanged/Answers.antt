use Rattle.graft_laws.proofs.laws.always_unchanged.Goals as goal
use Rattle.graft_laws.proofs.Unchanged.{unchanged}

pub returns : goal.returns
returns c = unchanged
