use Rattle.update_plan.proofs.PlanLaws.{rest}
use Rattle.update_plan.proofs.laws.rest_is_planned.Goals as goal

pub returns : goal.returns
returns c =
    λ due then_due dirty adj_rib_out to_tell wide batch batches plan less_due. rest due then_due dirty adj_rib_out to_tell wide batch less_due batches plan
