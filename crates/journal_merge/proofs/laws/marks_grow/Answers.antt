use Rattle.journal_merge.proofs.Pieces.{between_grows, level_grows}
use Rattle.journal_merge.proofs.laws.marks_grow.Goals as goal

pub returns-clause-between : goal.returns-clause-between
returns-clause-between g c = between_grows g.A.Actor.part g.A.Actor.makes g.A.Actor.paused

pub returns-clause-level : goal.returns-clause-level
returns-clause-level g c = level_grows g.A.Actor.part g.A.Actor.makes
