use Rattle.settled_check.proofs.Worlds.{nothing_is_quiet, found}
use Rattle.settled_check.proofs.laws.quiet_is_found.Goals as goal

pub returns-clause-nothing : goal.returns-clause-nothing
returns-clause-nothing c = nothing_is_quiet c.actors_have_their_numbers.ensures.numbers

pub returns-clause-found : goal.returns-clause-found
returns-clause-found c = λ setup w router far operator is rests. found c.actors_have_their_numbers.ensures.numbers setup w is router far operator rests
