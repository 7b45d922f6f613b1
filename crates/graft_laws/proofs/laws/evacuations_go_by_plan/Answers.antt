use Rattle.graft_laws.proofs.Emptied.{gives_by_plan}
use Rattle.graft_laws.proofs.laws.evacuations_go_by_plan.Goals as goal

pub returns : goal.returns
returns c setup events ok = gives_by_plan setup events
