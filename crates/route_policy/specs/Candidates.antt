-- The routes to one prefix between which a home router decides (RFC 4271, section 9.1.2).
use Rattle.std.specs.Prelude.{ℕ, ◌-◌, ◌^◌, min, Bool, true, false, List, [], ◌∷◌, ◌++◌, Option, Some, None, option_map, unwrap_or, if◌then◌else◌}
use Rattle.std.specs.List.{filter_map}
use Rattle.graft_edge.specs.declared.ids.PeeringId.{PeeringId}
use Rattle.graft_edge.specs.declared.ids.RouterId.{RouterId}
use Rattle.bgp_types.specs.Prefixes.{PrefixValue}
use Rattle.bgp_types.specs.Paths.{path_count, neighbour_of}
use Rattle.bgp_types.specs.declared.attrs.Attrs.{Attrs}
use Rattle.bgp_types.specs.declared.attrs.Origin.TheVariants.{Igp}
use Rattle.bgp_types.specs.declared.attrs.Route.{Route}
use Rattle.bgp_types.specs.declared.rank.From.TheVariants.{Own, Peering, Router}
use Rattle.bgp_types.specs.declared.rank.Rank.{Rank}
use Rattle.bgp_types.specs.Spelling.{origin_number}
use Rattle.route_policy.specs.Rules.{holds_as}
use Rattle.route_policy.specs.Policies.{policy}
use Rattle.route_policy.specs.declared.best.Best.{Best}
use Rattle.route_policy.specs.declared.entry.Entry.{Entry}
use Rattle.route_policy.specs.declared.rule.Rule.{Rule}

-- what a session, or the shadow of one that moved away, gives for a prefix: the identifier in the remote's OPEN, the remote's address, the import
-- policy, and the attributes as they were heard
pub record SessionRoute : Type 0 where
  pub peering : PeeringId
  pub remote_as : ℕ
  pub identifier : ℕ
  pub address : ℕ
  pub import_rules : Option (List Rule)
  pub heard : Option Attrs

-- what another home router gives for it: its identifier, the interior cost to it, and what it told
pub record RouterRoute : Type 0 where
  pub router : RouterId
  pub identifier : ℕ
  pub cost : ℕ
  pub told : Option Route

-- a candidate: its source and its route, together with the rank by which the choice is made
abbrev pub Candidate : Type 0
Candidate = Best × Rank

-- ---- ranks

abbrev pub own_rank : ℕ → Rank
own_rank home_as = record {
  own = true;
  pref = 100;
  path_len = 0;
  origin = 0;
  neighbour = home_as;
  med = 0;
  external = false;
  cost = 0;
  identifier = 0;
  address = 0;
}

-- An absent MED counts as 0. A count of ASes above 2^32 - 1 is taken as that number.
abbrev pub rank_of : ℕ → Bool → ℕ → ℕ → ℕ → Route → Rank
rank_of home_as external cost identifier address route = record {
  own = false;
  pref = route.pref;
  path_len = min (path_count route.attrs.path) (2 ^ 32 - 1);
  origin = origin_number route.attrs.origin;
  neighbour = neighbour_of route.attrs.path home_as;
  med = unwrap_or route.attrs.med 0;
  external = external;
  cost = cost;
  identifier = identifier;
  address = address;
}

-- ---- the candidates of each kind

-- a network of the router's own: preference 100, an empty path, ORIGIN IGP, and nothing else
abbrev pub own_route : Route
own_route = record {
  attrs = record { origin = Igp; path = []; next_hop = 0; med = None; atomic = false; aggregator = None; unknown = [] };
  pref = 100;
}

abbrev pub own_candidates : ℕ → Bool → List Candidate
own_candidates home_as has_network = if has_network then (record { from = Own; route = own_route }, own_rank home_as) ∷ [] else []

-- The route that a session gives. A path with the home AS would be a loop and gives none (section 9.1.2). Preference is 100 if the policy sets none;
-- without a policy all routes pass.
abbrev pub imported : ℕ → PrefixValue → SessionRoute → Option Attrs → Option Route
imported home_as prefix session None = None
imported home_as prefix session (Some heard) =
    if holds_as heard.path home_as then None
    else policy (unwrap_or session.import_rules []) prefix session.remote_as (record { attrs = heard; pref = 100 })

abbrev pub session_candidate : ℕ → SessionRoute → Option Route → Option Candidate
session_candidate home_as session None = None
session_candidate home_as session (Some route) =
    Some (record { from = Peering session.peering; route = route }, rank_of home_as true 0 session.identifier session.address route)

-- the candidate that the entry of a peering, given by number, makes
abbrev pub entry_candidate : ℕ → ℕ → Option Entry → Option Candidate
entry_candidate home_as p entry =
    option_map (λ e. (record { from = Peering (record { 0 = p }); route = e.route }, rank_of home_as true 0 e.identifier e.address e.route)) entry

-- the identifier of the router that told a route counts as the route's identifier and as its address
abbrev pub router_candidate : ℕ → RouterRoute → Option Route → Option Candidate
router_candidate home_as teller None = None
router_candidate home_as teller (Some route) =
    Some (record { from = Router teller.router; route = route }, rank_of home_as false teller.cost teller.identifier teller.identifier route)

-- The own network first, then the sessions and shadows in ascending order of peering, then the other routers in ascending order of number.
abbrev pub candidates : ℕ → PrefixValue → Bool → List SessionRoute → List RouterRoute → List Candidate
candidates home_as prefix has_network sessions tellers =
    own_candidates home_as has_network
    ++ filter_map (λ session. session_candidate home_as session (imported home_as prefix session session.heard)) sessions
    ++ filter_map (λ teller. router_candidate home_as teller teller.told) tellers
