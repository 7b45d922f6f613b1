use Rattle.graft_worked.proofs.First.{first_is}
use Rattle.graft_worked.proofs.laws.base_begins.Goals as goal

pub returns : goal.returns
returns c = record { world = first_is }
