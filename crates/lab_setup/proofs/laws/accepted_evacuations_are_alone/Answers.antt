use Rattle.lab_setup.proofs.Alone.{accepted_alone}
use Rattle.lab_setup.proofs.laws.accepted_evacuations_are_alone.Goals as goal

pub returns : goal.returns
returns c = accepted_alone
