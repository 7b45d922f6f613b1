use Rattle.forward_laws.proofs.Forwarding.{placed}
use Rattle.forward_laws.proofs.laws.packets_leave_where_sessions_are.Goals as goal

pub returns : goal.returns
returns c setup w r p x ok solves transparent is = let at = placed setup w solves ok transparent r p x is in (at.placed, at.there)
