use Rattle.graft_worked.proofs.Setup.{base_is_sound}
use Rattle.graft_worked.proofs.laws.base_is_a_setup.Goals as goal

pub returns : goal.returns
returns c = record { setup = base_is_sound }
