use Rattle.graft_model.proofs.Needs.{counted, lands, turns_back}
use Rattle.graft_model.proofs.conditions.landings_have_room.Goals as goal

-- src/conditions.rt
pub returns-clause-counted : goal.returns-clause-counted
returns-clause-counted c = counted

pub returns-clause-land : goal.returns-clause-land
returns-clause-land c = lands

pub returns-clause-turn_back : goal.returns-clause-turn_back
returns-clause-turn_back c = turns_back
