use Rattle.graft_laws.proofs.ToldPaths.{always_avoids}
use Rattle.graft_laws.proofs.laws.told_paths_avoid_the_remote_as.Goals as goal

pub returns : goal.returns
returns c = always_avoids
