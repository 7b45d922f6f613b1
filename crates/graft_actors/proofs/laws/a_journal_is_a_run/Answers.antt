use Rattle.graft_actors.proofs.Runs.{run_seen, journal_runs, group_runs}
use Rattle.graft_actors.proofs.laws.a_journal_is_a_run.Goals as goal

pub returns-clause-deeds : goal.returns-clause-deeds
returns-clause-deeds g c = run_seen

pub returns-clause-journal : goal.returns-clause-journal
returns-clause-journal g c = λ part setup u v levels notes entries w seen runs quiet. journal_runs part setup u v levels notes entries w seen runs quiet

pub returns-clause-without_go : goal.returns-clause-without_go
returns-clause-without_go g c = λ part setup u v levels notes entries w seen runs none. group_runs part setup u v levels notes entries w seen runs none
