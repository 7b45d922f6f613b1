use Rattle.std.proofs.Common.{◌≡◌, map, take}
use Rattle.lab_tables.proofs.labs.router_names.Given as goal

abbrev pub invariant-loop-router : goal.invariant-loop-router
invariant-loop-router l = l.names ≡ map (λ r. r.name) (take l.router-index l.routers)
