use Rattle.graft_laws.proofs.StreamLaws.{said_is, says_are_orders, say_has_room}
use Rattle.graft_laws.proofs.laws.what_is_said_has_room.Goals as goal

pub returns-clause-sum : goal.returns-clause-sum
returns-clause-sum c setup p peering w sound reached known = said_is setup p peering w known reached

pub returns-clause-orders : goal.returns-clause-orders
returns-clause-orders c = says_are_orders

pub returns-clause-room : goal.returns-clause-room
returns-clause-room c = say_has_room
