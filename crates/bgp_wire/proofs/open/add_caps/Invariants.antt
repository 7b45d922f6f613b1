use Rattle.std.proofs.Common.{length}
use Rattle.bgp_wire.proofs.CapLaws.{Adding}
use Rattle.bgp_wire.proofs.open.add_caps.Given as goal

abbrev pub invariant-loop-rest : goal.invariant-loop-rest
invariant-loop-rest l = Adding l.octets l.rest l.fn.caps l.caps

abbrev pub decreases-loop-rest : goal.decreases-loop-rest
decreases-loop-rest l = length l.rest
