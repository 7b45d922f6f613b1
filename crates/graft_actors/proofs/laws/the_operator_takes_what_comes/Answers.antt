use Rattle.graft_actors.proofs.Welcome.{operator_report}
use Rattle.graft_actors.proofs.laws.the_operator_takes_what_comes.Goals as goal

-- src/laws.rt
pub returns-clause-report : goal.returns-clause-report
returns-clause-report g c session setup n k = operator_report session setup n k
