use Rattle.std.proofs.Common.{◌≡◌, map, take}
use Rattle.lab_hints.proofs.names.policy_names.Given as goal

abbrev pub invariant-loop-policy : goal.invariant-loop-policy
invariant-loop-policy l = map (λ name. name.now) l.names ≡ map (λ policy. policy.name) (take l.policy-index l.policies)
