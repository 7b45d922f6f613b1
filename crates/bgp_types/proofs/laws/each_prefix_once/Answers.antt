use Rattle.bgp_types.proofs.OnceLaws.{each_once}
use Rattle.bgp_types.proofs.laws.each_prefix_once.Goals as goal

pub returns : goal.returns
returns c = each_once
