-- The name of the actor that an event takes from.
use Rattle.graft_actors.specs.Actors.{ActorName}
use Rattle.graft_actors.specs.Actors as actors
use Rattle.audit_ruling.specs.declared.senders.Sender.{Sender}
use Rattle.audit_ruling.specs.declared.senders.Sender.TheVariants.{Router, FarSide, Operator}

abbrev pub name_of : Sender → ActorName
name_of (Router r) = actors.Router r
name_of (FarSide p) = actors.FarSide p
name_of Operator = actors.Operator
