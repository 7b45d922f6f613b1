use Rattle.graft_model.proofs.Dues.{itself, beyond, no_session, alone}
use Rattle.graft_model.proofs.effects.another_best_route_is_due.Goals as goal

-- src/effects.rt
pub returns-clause-itself : goal.returns-clause-itself
returns-clause-itself c = itself

pub returns-clause-beyond : goal.returns-clause-beyond
returns-clause-beyond c setup r q prefix before after taken sent row = beyond setup r prefix before after taken sent row q

pub returns-clause-no_session : goal.returns-clause-no_session
returns-clause-no_session c setup r p prefix before after taken sent row = no_session setup r prefix before after taken sent row p

pub returns-clause-alone : goal.returns-clause-alone
returns-clause-alone c setup r n prefix x before after taken sent row = alone setup r prefix before after taken sent row n x
