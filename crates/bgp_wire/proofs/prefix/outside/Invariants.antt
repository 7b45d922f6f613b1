use Rattle.std.proofs.Common.{◌≡◌, take}
use Rattle.std.specs.Prelude.{not, filter}
use Rattle.bgp_wire.specs.Sets.{has}
use Rattle.bgp_wire.proofs.prefix.outside.Given as goal

abbrev pub invariant-loop-prefix : goal.invariant-loop-prefix
invariant-loop-prefix l = l.list ≡ filter (λ p. not (has l.set p)) (take l.prefix-index l.prefixes)
