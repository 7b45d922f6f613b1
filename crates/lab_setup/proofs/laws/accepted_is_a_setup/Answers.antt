use Rattle.lab_setup.proofs.Ready.{accepted_ready}
use Rattle.lab_setup.proofs.laws.accepted_is_a_setup.Goals as goal

pub returns : goal.returns
returns c = accepted_ready
