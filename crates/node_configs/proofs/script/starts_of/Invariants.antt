use Rattle.std.proofs.Common.{◌≡◌, take, map}
use Rattle.node_configs.proofs.script.starts_of.Given as goal

abbrev pub invariant-loop-peering : goal.invariant-loop-peering
invariant-loop-peering l = l.starts ≡ map (λ peering. peering.at) (take l.peering-index l.peerings)
