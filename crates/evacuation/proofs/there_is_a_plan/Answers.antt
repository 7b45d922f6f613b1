use Rattle.evacuation.proofs.ThePlan.{plan_for-plan}
use Rattle.evacuation.proofs.there_is_a_plan.Goals as goal

pub returns : goal.returns
returns c = λ rooms loads from count. plan_for-plan rooms from loads count
