use Rattle.graft_laws.proofs.StreamLaws.{always_unbroken, always_placed}
use Rattle.graft_laws.proofs.laws.sessions_are_unbroken.Goals as goal

pub returns-clause-unbroken : goal.returns-clause-unbroken
returns-clause-unbroken c = always_unbroken

pub returns-clause-placed : goal.returns-clause-placed
returns-clause-placed c = always_placed
