use Rattle.std.proofs.Common.{◌≡◌, take, map}
use Rattle.node_configs.proofs.script.rooms_of.Given as goal

abbrev pub invariant-loop-router : goal.invariant-loop-router
invariant-loop-router l = l.rooms ≡ map (λ router. router.sessions) (take l.router-index l.routers)
