use Rattle.sure_inputs.proofs.Sound.{sure_is_sure}
use Rattle.sure_inputs.proofs.sure_inputs_are_sure.Goals as goal

pub returns : goal.returns
returns c = sure_is_sure
