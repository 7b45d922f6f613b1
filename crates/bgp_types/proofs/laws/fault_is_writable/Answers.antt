use Rattle.bgp_types.proofs.NoticeLaws.{fault_writable}
use Rattle.bgp_types.proofs.laws.fault_is_writable.Goals as goal

pub returns : goal.returns
returns c = fault_writable
