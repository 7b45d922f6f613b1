use Rattle.forward_walk.proofs.TwoRouters.{two_at_most}
use Rattle.forward_walk.proofs.laws.walks_end.Goals as goal

pub returns : goal.returns
returns c tables address from walk solved lt w = two_at_most tables address solved from lt walk w
