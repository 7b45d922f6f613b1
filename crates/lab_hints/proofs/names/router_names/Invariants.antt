use Rattle.std.proofs.Common.{◌≡◌, map, take}
use Rattle.lab_hints.proofs.names.router_names.Given as goal

abbrev pub invariant-loop-router : goal.invariant-loop-router
invariant-loop-router l = map (λ name. name.now) l.names ≡ map (λ router. router.name) (take l.router-index l.routers)
