use Rattle.graft_model.proofs.Answered.{counted}
use Rattle.graft_model.proofs.laws.grafts_move_sessions.Goals as goal

pub returns-clause-counted : goal.returns-clause-counted
returns-clause-counted c setup r q p session word before after sent is next row = counted q p session word before after sent is next row
