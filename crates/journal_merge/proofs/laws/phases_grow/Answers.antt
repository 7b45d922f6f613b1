use Rattle.journal_merge.proofs.Pieces.{phase_grows}
use Rattle.journal_merge.proofs.laws.phases_grow.Goals as goal

pub returns : goal.returns
returns g c = phase_grows g.A.Actor.part g.A.Actor.makes g.A.Actor.took g.A.Actor.turned
