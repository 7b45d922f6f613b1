use Rattle.journal_merge.proofs.Pieces.{cuts_at_level}
use Rattle.journal_merge.proofs.laws.levels_cut.Goals as goal

pub returns : goal.returns
returns g c = cuts_at_level g.A.Actor.part g.A.Actor.makes
