use Rattle.std.proofs.Common.{◌≡◌, take, map}
use Rattle.node_configs.specs.Tables.{firsts_of}
use Rattle.node_configs.proofs.sessions.firsts_of.Given as goal

abbrev pub invariant-loop-peering : goal.invariant-loop-peering
invariant-loop-peering l = l.firsts ≡ map firsts_of (take l.peering-index l.peerings)
