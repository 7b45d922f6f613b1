use Rattle.why_view.proofs.Choosing.{winner_is_best}
use Rattle.why_view.proofs.laws.the_winner_is_the_best.Goals as goal

pub returns : goal.returns
returns c = winner_is_best
