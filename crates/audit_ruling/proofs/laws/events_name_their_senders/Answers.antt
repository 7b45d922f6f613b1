use Rattle.audit_ruling.proofs.Takes.{by_router, by_far, by_operator}
use Rattle.audit_ruling.proofs.laws.events_name_their_senders.Goals as goal

pub returns-clause-router : goal.returns-clause-router
returns-clause-router c = λ setup r event before after taken sent row. by_router setup r before after taken sent event row

pub returns-clause-far : goal.returns-clause-far
returns-clause-far c = λ setup p event before after taken sent row. by_far setup p before after taken sent event row

pub returns-clause-operator : goal.returns-clause-operator
returns-clause-operator c = λ setup event before after taken sent row. by_operator setup before after taken sent event row
