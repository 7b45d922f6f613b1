use Rattle.std.proofs.Common.{◌≡◌, length, map, take}
use Rattle.lab_input.proofs.counts.openings.Given as goal

abbrev pub invariant-loop-peering : goal.invariant-loop-peering
invariant-loop-peering l = l.said.items ≡ map (λ p. length p.opening) (take l.peering-index l.peerings)
