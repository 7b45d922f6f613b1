-- The candidates of a router for a prefix, their sources, and the choice between them (RFC 4271, section 9.1.2).
use Rattle.std.specs.Prelude.{ℕ, ◌≡◌, ◌≤◌, ◌++◌, Bool, false, List, Option, Some, None, option_map, unwrap_or, slice_get, if◌then◌else◌}
use Rattle.std.specs.List.{list_any, filter_map, range_with_len}
use Rattle.std.specs.FinMap as map
use Rattle.bgp_types.specs.Prefixes.{PrefixValue, same_prefix}
use Rattle.bgp_types.specs.declared.attrs.Route.{Route}
use Rattle.bgp_types.specs.declared.rank.From.{From}
use Rattle.bgp_types.specs.declared.rank.From.TheVariants.{Own, Peering, Router}
use Rattle.decision_core.specs.Choice.{choice}
use Rattle.route_policy.specs.Candidates.{Candidate, own_candidates, own_route, entry_candidate, rank_of}
use Rattle.route_policy.specs.declared.best.Best.{Best}
use Rattle.session_value.specs.Sets.{has}
use Rattle.rib_stages.specs.declared.config.RibConfig.{RibConfig}
use Rattle.rib_stages.specs.Values.{RibValue, set_of}

-- ---- what is configured

-- the interior cost to a router: 1 if none is given
abbrev pub cost_to : RibConfig → ℕ → ℕ
cost_to config q = unwrap_or (slice_get config.costs q) 1

abbrev pub identifier_of : RibConfig → ℕ → ℕ
identifier_of config q = unwrap_or (slice_get config.identifiers q) 0

abbrev pub has_network : RibConfig → PrefixValue → Bool
has_network config prefix = list_any (same_prefix prefix) config.networks

-- ---- candidates

-- the identifier of the router that told a route counts as the route's identifier and as its address
abbrev pub telling_candidate : RibConfig → ℕ → Option Route → Option Candidate
telling_candidate config q telling = option_map (λ route. (
  record { from = Router (record { 0 = q }); route = route },
  rank_of config.home_as false (cost_to config q) (identifier_of config q) (identifier_of config q) route,
)) telling

-- The own network, what the peerings of these numbers gave, and what the routers of these numbers told.
abbrev pub candidates_among : List ℕ → List ℕ → RibValue → PrefixValue → List Candidate
candidates_among peerings routers rib prefix =
    own_candidates rib.config.home_as (has_network rib.config prefix)
    ++ filter_map (λ p. entry_candidate rib.config.home_as p (map.get (rib.entries p) prefix)) peerings
    ++ filter_map (λ q. telling_candidate rib.config q (map.get (rib.tellings q) prefix)) routers

-- the numbers that a peering or a router can have: those of an octet, in ascending order
unfoldable pub source_numbers : List ℕ
source_numbers = range_with_len 0 256

-- The own network first, then the peerings in ascending order of number, then the routers in ascending order of number.
unfoldable pub candidates_of : RibValue → PrefixValue → List Candidate
candidates_of rib prefix = candidates_among source_numbers source_numbers rib prefix

-- the choice between them
unfoldable pub rib_choice : RibValue → PrefixValue → Option Best
rib_choice rib prefix = choice (candidates_of rib prefix)

-- No peering and no router from these numbers on has a route to the prefix.
pub record NoneBehind (peerings routers : ℕ) (rib : RibValue) (prefix : PrefixValue) : Type 0 where
  pub entries : (p : ℕ) → peerings ≤ p → map.get (rib.entries p) prefix ≡ None
  pub tellings : (q : ℕ) → routers ≤ q → map.get (rib.tellings q) prefix ≡ None

-- For a prefix that isn't dirty, the best route is the chosen one, or there is none if none is chosen.
pub record IsDecided (rib : RibValue) : Type 0 where
  pub best : (prefix : PrefixValue) → has rib.dirty prefix ≡ false → map.get rib.best prefix ≡ rib_choice rib prefix

-- ---- by source

-- the route to a prefix from this source
abbrev pub route_from : RibValue → From → PrefixValue → Option Route
route_from rib Own prefix = if has_network rib.config prefix then Some own_route else None
route_from rib (Peering p) prefix = option_map (λ e. e.route) (map.get (rib.entries p.0) prefix)
route_from rib (Router q) prefix = map.get (rib.tellings q.0) prefix

-- the prefixes of the routes from this source, in ascending order
abbrev pub prefixes_from : RibValue → From → List PrefixValue
prefixes_from rib Own = map.keys (set_of rib.config.networks)
prefixes_from rib (Peering p) = map.keys (rib.entries p.0)
prefixes_from rib (Router q) = map.keys (rib.tellings q.0)
