use Rattle.graft_model.specs.First.{first_world}
use Rattle.graft_laws.proofs.Runs.{reached_first}
use Rattle.graft_laws.proofs.OneWorld.{one_run}
use Rattle.graft_laws.proofs.laws.runs_lead_to_one_world.Goals as goal

pub returns : goal.returns
returns c setup events u v sound one other = one_run setup events (first_world setup) u v sound (reached_first setup) one other
