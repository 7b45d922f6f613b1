-- Laws of meshes, and of worlds whose tables solve the decision equations.
use Rattle.std.specs.Prelude.{ℕ, ◌≡◌, ◌≢◌, ◌<◌, Option}
use Rattle.std.specs.List.{AllByRecursion}
use Rattle.std.specs.FinMap as map
use Rattle.bgp_types.specs.Prefixes.{PrefixValue}
use Rattle.route_policy.specs.declared.best.Best.{Best}
use Rattle.route_policy.specs.Telling.{tell_in}
use Rattle.graft_model.specs.Setups.{Setup, routers_in}
use Rattle.graft_model.specs.Parts.{World}
use Rattle.graft_model.specs.Claims as claims
use Rattle.even_meshes.specs.Meshes.{PrefixMesh, SolvesMesh, IsEven, choice_alone, leader_route, solution}
use Rattle.even_meshes.specs.Worked.{crossed, one_way, other_way}
use Rattle.even_meshes.specs.Worlds.{prefix_mesh}

-- Best routes that solve an even mesh are those of the solution.
abbrev pub EvenMeshesHaveOneSolution : Type 0
EvenMeshesHaveOneSolution = (m : PrefixMesh) (best : ℕ → Option Best) → IsEven m → SolvesMesh m best → AllByRecursion (λ r. best r ≡ solution m r) m.routers

-- The solution of an even mesh solves it.
abbrev pub TheSolutionSolves : Type 0
TheSolutionSolves = (m : PrefixMesh) → IsEven m → SolvesMesh m (solution m)

-- In the solution of an even mesh, a router tells the others its first route if it leads with that, and nothing otherwise.
abbrev pub OnlyLeadersTell : Type 0
OnlyLeadersTell = (m : PrefixMesh) (best : ℕ → Option Best) → IsEven m → SolvesMesh m best
    → AllByRecursion (λ r. tell_in (best r) ≡ leader_route m (choice_alone m r)) m.routers

-- The crossed mesh isn't even, and has two solutions, which differ at both of its routers.
abbrev pub UnevenMeshesHaveTwo : Type 0
UnevenMeshesHaveTwo = (¬ IsEven crossed) × SolvesMesh crossed one_way × SolvesMesh crossed other_way × (one_way 0 ≢ other_way 0) × (one_way 1 ≢ other_way 1)

-- Tables that solve the decision equations have the solution's route to each prefix whose mesh is even.
abbrev pub SettledTablesAreTheSolution : Type 0
SettledTablesAreTheSolution = (setup : Setup) (w : World) (prefix : PrefixValue) (r : ℕ) → r < routers_in setup
    → claims.Solves setup w → IsEven (prefix_mesh setup w prefix) → map.get (w.router r).best prefix ≡ solution (prefix_mesh setup w prefix) r

-- Two worlds of one laboratory, whose tables both solve the decision equations, have the same sessions at each router, with the same routes to a
-- prefix, and the mesh of one of them is even, so that of the other one is too. Then each router has the same best route to that prefix in both.
abbrev pub EqualMeshesHaveEqualTables : Type 0
EqualMeshesHaveEqualTables = (setup : Setup) (w v : World) (prefix : PrefixValue) → claims.Solves setup w → claims.Solves setup v
    → IsEven (prefix_mesh setup w prefix)
    → ((r : ℕ) → r < routers_in setup → (prefix_mesh setup v prefix).sessions r ≡ (prefix_mesh setup w prefix).sessions r)
    → (r : ℕ) → r < routers_in setup → map.get (v.router r).best prefix ≡ map.get (w.router r).best prefix
