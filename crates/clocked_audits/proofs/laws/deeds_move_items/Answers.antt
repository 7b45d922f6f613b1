use Rattle.clocked_audits.proofs.DeedMoves.{deeds_move}
use Rattle.clocked_audits.proofs.laws.deeds_move_items.Goals as goal

pub returns : goal.returns
returns g c session = deeds_move session
