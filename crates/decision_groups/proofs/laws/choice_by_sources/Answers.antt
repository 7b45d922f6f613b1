use Rattle.decision_groups.proofs.Sources.{choice-sources, candidate-chosen}
use Rattle.decision_groups.proofs.laws.choice_by_sources.Goals as goal

pub returns : goal.returns
returns g c = record { source = choice-sources; candidate = candidate-chosen }
