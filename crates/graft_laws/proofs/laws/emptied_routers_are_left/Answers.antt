use Rattle.graft_laws.proofs.Emptied.{are_emptied}
use Rattle.graft_laws.proofs.laws.emptied_routers_are_left.Goals as goal

pub returns : goal.returns
returns c = are_emptied
