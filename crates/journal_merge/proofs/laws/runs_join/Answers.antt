use Rattle.journal_merge.proofs.Runs.{run-append}
use Rattle.journal_merge.proofs.laws.runs_join.Goals as goal

pub returns : goal.returns
returns g c = run-append g.A.Actor.makes
