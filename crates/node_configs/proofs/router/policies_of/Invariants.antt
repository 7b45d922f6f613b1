use Rattle.std.proofs.Common.{◌≡◌, take, map}
use Rattle.node_configs.specs.Tables.{named_policy}
use Rattle.node_configs.proofs.router.policies_of.Given as goal

abbrev pub invariant-loop-policy : goal.invariant-loop-policy
invariant-loop-policy l = l.named ≡ map named_policy (take l.policy-index l.policies)
