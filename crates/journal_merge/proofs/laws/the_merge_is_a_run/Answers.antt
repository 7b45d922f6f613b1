use Rattle.journal_merge.proofs.Pieces.{merge_runs}
use Rattle.journal_merge.proofs.laws.the_merge_is_a_run.Goals as goal

pub returns : goal.returns
returns g c = merge_runs g.A.Actor.part g.A.Actor.makes
