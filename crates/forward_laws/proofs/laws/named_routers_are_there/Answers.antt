use Rattle.forward_laws.proofs.Forwarding.{named_there}
use Rattle.forward_laws.proofs.laws.named_routers_are_there.Goals as goal

pub returns : goal.returns
returns c setup w r q x ok solves is = named_there setup w solves r q x is
