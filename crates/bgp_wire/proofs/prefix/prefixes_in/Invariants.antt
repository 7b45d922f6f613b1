use Rattle.std.proofs.Common.{length}
use Rattle.bgp_wire.specs.Sets.{IsSetOf}
use Rattle.bgp_wire.proofs.PrefixLaws.{Reading}
use Rattle.bgp_wire.proofs.prefix.prefixes_in.Given as goal

abbrev pub invariant-loop-rest : goal.invariant-loop-rest
invariant-loop-rest l = record {
  set : IsSetOf l.set l.prefixes;
  so_far : Reading l.field l.rest l.prefixes;
}

abbrev pub decreases-loop-rest : goal.decreases-loop-rest
decreases-loop-rest l = length l.rest
