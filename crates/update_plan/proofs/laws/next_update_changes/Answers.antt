use Rattle.update_plan.proofs.PlanLaws.{changes}
use Rattle.update_plan.proofs.laws.next_update_changes.Goals as goal

pub returns : goal.returns
returns c = λ due dirty adj_rib_out to_tell wide batch next. changes due dirty adj_rib_out to_tell wide batch next
