use Rattle.graft_actors.proofs.Setups.{plain_run, plain_journal}
use Rattle.graft_actors.proofs.laws.actors_keep_their_setup.Goals as goal

pub returns-clause-run : goal.returns-clause-run
returns-clause-run g c = plain_run

pub returns-clause-journal : goal.returns-clause-journal
returns-clause-journal g c = λ part setup u v levels notes entries net have runs. plain_journal part setup u v levels notes entries net have runs
