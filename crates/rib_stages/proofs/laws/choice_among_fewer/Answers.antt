use Rattle.rib_stages.proofs.Candidates.{chosen_among}
use Rattle.rib_stages.proofs.laws.choice_among_fewer.Goals as goal

pub returns : goal.returns
returns c = λ rib prefix peerings routers few_peerings few_routers none. chosen_among rib prefix peerings routers few_peerings few_routers none
