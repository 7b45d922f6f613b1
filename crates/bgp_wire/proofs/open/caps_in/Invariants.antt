use Rattle.std.proofs.Common.{length}
use Rattle.bgp_wire.proofs.CapLaws.{Reading}
use Rattle.bgp_wire.proofs.open.caps_in.Given as goal

abbrev pub invariant-loop-param : goal.invariant-loop-param
invariant-loop-param l = Reading l.params l.rest l.caps

abbrev pub decreases-loop-param : goal.decreases-loop-param
decreases-loop-param l = length l.rest
