use Rattle.std.proofs.Common.{◌≡◌, ◌++◌, take}
use Rattle.std.specs.List.{filter_map}
use Rattle.route_policy.specs.Candidates.{router_candidate}
use Rattle.why_view.proofs.candidates.push_routers.Given as goal

-- the candidates of the routers so far
abbrev pub invariant-loop-router : goal.invariant-loop-router
invariant-loop-router l = l.candidates
    ≡ l.initial.candidates ++ filter_map (λ teller. router_candidate l.home_as teller teller.told) (take l.router-index l.routers)
