use Rattle.session_value.proofs.Rooms.{keepalive_size, open_size, expired_size, fault_size}
use Rattle.session_value.proofs.laws.own_messages_are_short.Goals as goal

pub returns-clause-keepalive : goal.returns-clause-keepalive
returns-clause-keepalive c = keepalive_size

pub returns-clause-open : goal.returns-clause-open
returns-clause-open c = open_size

pub returns-clause-expired : goal.returns-clause-expired
returns-clause-expired c = expired_size

pub returns-clause-fault : goal.returns-clause-fault
returns-clause-fault c = fault_size
