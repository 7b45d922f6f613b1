use Rattle.bgp_frame.proofs.StreamLaws.{stuck_law}
use Rattle.bgp_frame.proofs.laws.fault_stays.Goals as goal

pub returns : goal.returns
returns c = λ before calls fault stuck. stuck_law fault before before calls stuck
