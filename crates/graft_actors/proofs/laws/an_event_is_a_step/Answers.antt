use Rattle.graft_actors.proofs.Steps.{event_step}
use Rattle.graft_actors.proofs.laws.an_event_is_a_step.Goals as goal

pub returns : goal.returns
returns c = event_step
