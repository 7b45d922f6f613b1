use Rattle.graft_laws.proofs.laws.no_item_is_dropped.Goals as goal
use Rattle.graft_laws.proofs.Dropped.{nothing_is_dropped}

pub returns : goal.returns
returns c = nothing_is_dropped
