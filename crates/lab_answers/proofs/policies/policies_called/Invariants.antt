use Rattle.std.proofs.Common.{◌≡◌, take}
use Rattle.std.specs.List.{filter_map}
use Rattle.lab_answers.specs.Policies.{policy_rules}
use Rattle.lab_answers.proofs.policies.policies_called.Given as goal

abbrev pub invariant-loop-router : goal.invariant-loop-router
invariant-loop-router l = l.policies ≡ filter_map (policy_rules l.name) (take l.router-index l.routers)
