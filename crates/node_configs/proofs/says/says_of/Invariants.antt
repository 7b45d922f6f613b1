use Rattle.std.proofs.Common.{◌≡◌, take}
use Rattle.node_configs.specs.Says.{says_of}
use Rattle.node_configs.proofs.says.says_of.Given as goal

abbrev pub invariant-loop-i : goal.invariant-loop-i
invariant-loop-i l = l.says ≡ says_of l.wide l.peering.0 (take l.i l.steps)
