use Rattle.session_value.proofs.Rooms.{got_has_room, passed_has_room}
use Rattle.session_value.proofs.laws.answers_have_room.Goals as goal

pub returns-clause-got : goal.returns-clause-got
returns-clause-got c = got_has_room

pub returns-clause-passed : goal.returns-clause-passed
returns-clause-passed c = passed_has_room
