use Rattle.bgp_frame.proofs.StreamLaws.{stream_law}
use Rattle.bgp_frame.proofs.laws.any_pieces.Goals as goal

pub returns : goal.returns
returns c = stream_law
