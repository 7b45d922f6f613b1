use Rattle.forward_laws.proofs.Forwarding.{are_solved}
use Rattle.forward_laws.proofs.laws.solved_networks_forward.Goals as goal

pub returns : goal.returns
returns c setup w ok solves = are_solved setup w solves
