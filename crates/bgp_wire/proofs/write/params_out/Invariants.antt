use Rattle.std.proofs.Common.{◌≡◌, take}
use Rattle.std.specs.List.{flat_map}
use Rattle.bgp_types.specs.Spelling.{cap_octets, param_octets}
use Rattle.bgp_wire.proofs.write.params_out.Given as goal

abbrev pub invariant-loop-cap : goal.invariant-loop-cap
invariant-loop-cap l = l.out ≡ flat_map (λ cap. param_octets (cap_octets cap)) (take l.cap-index l.caps)
