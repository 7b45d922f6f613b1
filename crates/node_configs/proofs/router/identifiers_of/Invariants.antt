use Rattle.std.proofs.Common.{◌≡◌, take, map}
use Rattle.node_configs.proofs.router.identifiers_of.Given as goal

abbrev pub invariant-loop-router : goal.invariant-loop-router
invariant-loop-router l = l.identifiers ≡ map (λ router. router.id) (take l.router-index l.routers)
