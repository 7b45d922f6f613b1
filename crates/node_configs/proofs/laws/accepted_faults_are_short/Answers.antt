use Rattle.node_configs.proofs.Faults.{accepted_soon}
use Rattle.node_configs.proofs.laws.accepted_faults_are_short.Goals as goal

pub returns : goal.returns
returns c = accepted_soon
