use Rattle.std.proofs.Common.{◌≡◌, take}
use Rattle.bgp_types.specs.Spelling.{spell_prefixes}
use Rattle.bgp_wire.proofs.prefix.prefixes_out.Given as goal

abbrev pub invariant-loop-prefix : goal.invariant-loop-prefix
invariant-loop-prefix l = l.out ≡ spell_prefixes (take l.prefix-index l.prefixes)
