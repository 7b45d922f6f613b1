use Rattle.std.proofs.Common.{◌≡◌, map, take}
use Rattle.lab_tables.proofs.labs.peering_names.Given as goal

abbrev pub invariant-loop-peering : goal.invariant-loop-peering
invariant-loop-peering l = l.names ≡ map (λ p. p.name) (take l.peering-index l.peerings)
