use Rattle.std.proofs.Common.{arith}
use Rattle.ring_net.proofs.laws.two_phases_drain.Goals as goal

pub returns : goal.returns
returns g c = λ u v s t first second same a b. omega (arith, first.pushed a b, second.known a b, same a b)
