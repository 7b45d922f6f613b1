use Rattle.std.proofs.Common.{◌≡◌, map, take}
use Rattle.lab_hints.proofs.names.peering_names.Given as goal

abbrev pub invariant-loop-peering : goal.invariant-loop-peering
invariant-loop-peering l = map (λ name. name.now) l.names ≡ map (λ peering. peering.name) (take l.peering-index l.peerings)
