use Rattle.std.proofs.Common.{◌≡◌, map, take}
use Rattle.std.specs.List.{flat_map}
use Rattle.lab_hints.proofs.names.policies_of.Given as goal

abbrev pub invariant-loop-router : goal.invariant-loop-router
invariant-loop-router l = map (λ name. name.now) l.names ≡ flat_map (λ router. map (λ policy. policy.name) router.policies) (take l.router-index l.routers)
