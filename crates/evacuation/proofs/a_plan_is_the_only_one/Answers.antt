use Rattle.evacuation.proofs.PlanLaws.{one_plan}
use Rattle.evacuation.proofs.a_plan_is_the_only_one.Goals as goal

pub returns : goal.returns
returns c = λ rooms loads from. one_plan rooms from loads
