use Rattle.bgp_types.proofs.ReadsOnce.{reads_exactly}
use Rattle.bgp_types.proofs.laws.reads_exactly.Goals as goal

pub returns : goal.returns
returns c = reads_exactly
