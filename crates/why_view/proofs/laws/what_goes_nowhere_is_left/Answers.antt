use Rattle.why_view.proofs.Choosing.{nowhere_is_left}
use Rattle.why_view.proofs.laws.what_goes_nowhere_is_left.Goals as goal

pub returns : goal.returns
returns c = nowhere_is_left
