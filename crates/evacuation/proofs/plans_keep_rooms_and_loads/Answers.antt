use Rattle.evacuation.proofs.PlanLaws.{length-plan, KeepsRooms-plan, number_given-plan, AreAtMost-plan}
use Rattle.evacuation.proofs.plans_keep_rooms_and_loads.Goals as goal

pub returns-clause-room : goal.returns-clause-room
returns-clause-room c = λ rooms loads from. KeepsRooms-plan rooms from loads

pub returns-clause-number : goal.returns-clause-number
returns-clause-number c = λ rooms loads from. length-plan rooms from loads

pub returns-clause-as_many : goal.returns-clause-as_many
returns-clause-as_many c = λ rooms loads from. number_given-plan rooms from loads

pub returns-clause-least : goal.returns-clause-least
returns-clause-least c = λ rooms loads from. AreAtMost-plan rooms from loads
