use Rattle.ring_net.proofs.Replays.{clocked_rises, clocked_later}
use Rattle.ring_net.proofs.laws.clocks_rise.Goals as goal

pub returns : goal.returns
returns g c = λ a b notes h. (clocked_rises a b notes h, clocked_later a b notes h)
