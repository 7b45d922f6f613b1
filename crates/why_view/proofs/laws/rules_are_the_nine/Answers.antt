use Rattle.std.proofs.Common.{refl}
use Rattle.why_view.proofs.laws.rules_are_the_nine.Goals as goal

pub returns : goal.returns
returns c = refl
