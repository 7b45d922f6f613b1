use Rattle.route_policy.proofs.Avoiding.{told_avoids}
use Rattle.route_policy.proofs.laws.told_paths_avoid_the_remote_as.Goals as goal

pub returns : goal.returns
returns c = told_avoids
