use Rattle.tcp_end.proofs.Wholes.{endpoint_is}
use Rattle.tcp_end.proofs.laws.an_endpoint_is_its_state.Goals as goal

pub returns : goal.returns
returns c = endpoint_is
