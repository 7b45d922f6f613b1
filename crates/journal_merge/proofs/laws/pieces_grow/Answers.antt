use Rattle.journal_merge.proofs.Pieces.{grows_on}
use Rattle.journal_merge.proofs.laws.pieces_grow.Goals as goal

pub returns : goal.returns
returns g c = grows_on g.A.Actor.part g.A.Actor.makes
