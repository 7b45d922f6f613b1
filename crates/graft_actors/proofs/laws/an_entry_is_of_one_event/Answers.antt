use Rattle.graft_actors.proofs.OneWorld.{one_event, one_list}
use Rattle.graft_actors.proofs.laws.an_entry_is_of_one_event.Goals as goal

pub returns-clause-one : goal.returns-clause-one
returns-clause-one c = one_event c.codes_are_exact.ensures.router c.codes_are_exact.ensures.far c.codes_are_exact.ensures.operator

pub returns-clause-all : goal.returns-clause-all
returns-clause-all c = one_list c.codes_are_exact.ensures.router c.codes_are_exact.ensures.far c.codes_are_exact.ensures.operator
