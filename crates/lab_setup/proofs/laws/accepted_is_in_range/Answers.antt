use Rattle.lab_setup.proofs.InRange.{accepted_in_range}
use Rattle.lab_setup.proofs.laws.accepted_is_in_range.Goals as goal

pub returns : goal.returns
returns c = accepted_in_range
