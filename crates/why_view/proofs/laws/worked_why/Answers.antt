use Rattle.why_view.proofs.Worked.{why_is}
use Rattle.why_view.proofs.laws.worked_why.Goals as goal

pub returns : goal.returns
returns c = why_is
