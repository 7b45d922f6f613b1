use Rattle.why_view.proofs.Choosing.{left_out_goes_there}
use Rattle.why_view.proofs.laws.what_a_rule_leaves_out_goes_there.Goals as goal

pub returns : goal.returns
returns c = left_out_goes_there
