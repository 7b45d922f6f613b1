use Rattle.graft_actors.proofs.OneWorld.{one_world}
use Rattle.graft_actors.proofs.laws.a_net_is_one_world.Goals as goal

pub returns : goal.returns
returns c = one_world
