use Rattle.std.proofs.Common.{length}
use Rattle.bgp_wire.proofs.CapLaws.{SoFar}
use Rattle.bgp_wire.proofs.open.are_items.Given as goal

abbrev pub invariant-loop-rest : goal.invariant-loop-rest
invariant-loop-rest l = SoFar l.octets l.rest

abbrev pub decreases-loop-rest : goal.decreases-loop-rest
decreases-loop-rest l = length l.rest
