use Rattle.node_configs.proofs.Sound.{accepted_sound}
use Rattle.node_configs.proofs.laws.budgets_are_sound.Goals as goal

pub returns : goal.returns
returns c = accepted_sound
