use Rattle.node_configs.proofs.Groups.{each_has_one}
use Rattle.node_configs.proofs.laws.each_group_has_a_budget.Goals as goal

pub returns : goal.returns
returns c = each_has_one
