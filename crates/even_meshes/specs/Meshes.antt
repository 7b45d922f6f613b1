-- Home routers that decide on one prefix, each between a network of its own, what its sessions heard, and what the other routers tell it
-- (RFC 4271, sections 9.1 and 9.1.2.2).
use Rattle.std.specs.Prelude.{ℕ, ◌≡◌, ◌==◌, Bool, true, false, not, ◌||◌, List, ◌++◌, map, filter, Option, Some, None, if◌then◌else◌}
use Rattle.std.specs.List.{AllByRecursion, filter_map, list_any}
use Rattle.bgp_types.specs.Prefixes.{PrefixValue}
use Rattle.bgp_types.specs.declared.attrs.Route.{Route}
use Rattle.bgp_types.specs.declared.rank.From.{From}
use Rattle.bgp_types.specs.declared.rank.From.TheVariants.{Own, Peering, Router}
use Rattle.bgp_types.specs.declared.rank.Rank.{Rank}
use Rattle.decision_core.specs.Choice.{choice}
use Rattle.decision_core.specs.Search.{leads}
use Rattle.route_policy.specs.declared.best.Best.{Best}
use Rattle.route_policy.specs.Candidates.{SessionRoute, RouterRoute, Candidate, candidates, own_candidates, session_candidate, imported, rank_of}
use Rattle.route_policy.specs.Telling.{tell_in}

-- A home network and one prefix: the numbers of its routers, which of them have the prefix as a network of their own, what the sessions at each
-- heard, each one's BGP Identifier, and the interior cost from one to another.
pub record PrefixMesh : Type 0 where
  pub home_as : ℕ
  pub prefix : PrefixValue
  pub routers : List ℕ
  pub has_network : ℕ → Bool
  pub sessions : ℕ → List SessionRoute
  pub identifier : ℕ → ℕ
  pub cost : ℕ → ℕ → ℕ

-- what a session brings in, if anything
abbrev pub session_brings : PrefixMesh → SessionRoute → Option Candidate
session_brings m session = session_candidate m.home_as session (imported m.home_as m.prefix session session.heard)

-- what a router has by itself: its own network, and what its sessions bring in
abbrev pub candidates_alone : PrefixMesh → ℕ → List Candidate
candidates_alone m r = own_candidates m.home_as (m.has_network r) ++ filter_map (session_brings m) (m.sessions r)

-- ---- the equations

-- what router q tells router r, if each router tells this
abbrev pub teller : PrefixMesh → (ℕ → Option Route) → ℕ → ℕ → RouterRoute
teller m told r q = record { router = record { 0 = q }; identifier = m.identifier q; cost = m.cost r q; told = told q }

-- what the other routers tell a router
abbrev pub tellers : PrefixMesh → (ℕ → Option Route) → ℕ → List RouterRoute
tellers m told r = map (teller m told r) (filter (λ q. not (q == r)) m.routers)

-- what a router chooses if each router tells this
abbrev pub decided : PrefixMesh → (ℕ → Option Route) → ℕ → Option Best
decided m told r = choice (candidates m.home_as m.prefix (m.has_network r) (m.sessions r) (tellers m told r))

-- Each router's best route is what it chooses when each router tells its best route, if that is own or external.
abbrev pub SolvesMesh : PrefixMesh → (ℕ → Option Best) → Type 0
SolvesMesh m best = AllByRecursion (λ r. best r ≡ decided m (λ q. tell_in (best q)) r) m.routers

-- Among all that the routers have by themselves, the routes of each neighbour AS have the same MED. An absent MED is 0.
pub record IsEven (m : PrefixMesh) : Type 0 where
  pub med : (neighbour : ℕ) → ℕ
  pub each : AllByRecursion (λ r. AllByRecursion (λ (c : Candidate). c.1.med ≡ med c.1.neighbour) (candidates_alone m r)) m.routers

-- ---- the solution

-- a router's first route: what it would choose if it were alone
abbrev pub choice_alone : PrefixMesh → ℕ → Option Best
choice_alone m r = choice (candidates_alone m r)

-- the rank of a route, in which it doesn't matter which router has the route or from where
abbrev pub rank_anywhere : ℕ → Route → Rank
rank_anywhere home_as route = rank_of home_as false 0 0 0 route

-- A route beats another one in preference, then by the shorter path, then by the lower ORIGIN: by all that is compared before MED, whichever router
-- has it.
abbrev pub beats_before_med : ℕ → Route → Route → Bool
beats_before_med home_as a b = leads (rank_anywhere home_as a) (rank_anywhere home_as b)

abbrev pub beats_as : ℕ → Option Best → Route → Bool
beats_as home_as None route = false
beats_as home_as (Some best) route = beats_before_med home_as best.route route

abbrev pub is_own_source : From → Bool
is_own_source Own = true
is_own_source (Peering p) = false
is_own_source (Router q) = false

-- A router leads with its first route if that is a network of its own, or if no router's first route beats it.
abbrev pub is_leader : PrefixMesh → Best → Bool
is_leader m best = is_own_source best.from || not (list_any (λ q. beats_as m.home_as (choice_alone m q) best.route) m.routers)

-- what a router with this first route tells: that route if it leads, and nothing otherwise
abbrev pub leader_route : PrefixMesh → Option Best → Option Route
leader_route m None = None
leader_route m (Some best) = if is_leader m best then Some best.route else None

-- A router's best route in the solution is what it chooses when only the leaders tell their first routes.
abbrev pub solution : PrefixMesh → ℕ → Option Best
solution m r = decided m (λ q. leader_route m (choice_alone m q)) r
