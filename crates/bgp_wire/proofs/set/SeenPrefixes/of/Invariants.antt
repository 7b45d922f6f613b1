use Rattle.std.proofs.Common.{take}
use Rattle.bgp_wire.specs.Sets.{IsSetOf}
use Rattle.bgp_wire.proofs.set.SeenPrefixes.of.Given as goal

abbrev pub invariant-loop-prefix : goal.invariant-loop-prefix
invariant-loop-prefix l = IsSetOf l.set (take l.prefix-index l.prefixes)
