use Rattle.graft_model.proofs.OneWorld.{one_step}
use Rattle.graft_model.proofs.laws.events_lead_to_one_world.Goals as goal

pub returns : goal.returns
returns c = one_step
