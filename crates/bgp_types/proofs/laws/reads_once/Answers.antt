use Rattle.bgp_types.proofs.ReadsOnce.{once}
use Rattle.bgp_types.proofs.laws.reads_once.Goals as goal

pub returns : goal.returns
returns c = once
