use Rattle.decision_groups.proofs.Law.{choice-by_champions}
use Rattle.decision_groups.proofs.laws.champions_decide.Goals as goal

pub returns : goal.returns
returns c = choice-by_champions
