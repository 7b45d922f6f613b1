-- Laboratories whose routers never have two routes to one prefix, from one neighbour AS, with two MEDs.
use Rattle.std.specs.Prelude.{ℕ, ◌==◌, Bool, ◌&&◌, List, ◌∷◌, ◌++◌, Option, option_map, option_and_then, unwrap_or, map, find}
use Rattle.std.specs.List.{filter_map, flat_map, enumerate_from, list_all}
use Rattle.bgp_types.specs.declared.attrs.Attrs.{Attrs}
use Rattle.bgp_types.specs.declared.attrs.Route.{Route}
use Rattle.bgp_types.specs.Paths.{neighbour_of}
use Rattle.bgp_types.specs.Prefixes.{PrefixValue, same_prefix}
use Rattle.route_policy.specs.Candidates.{own_route}
use Rattle.route_policy.specs.Policies.{policy}
use Rattle.session_value.specs.declared.config.SessionConfig.{SessionConfig}
use Rattle.graft_model.specs.Setups.{Setup, RouterSetup, PeeringSetup, router_numbers, rules_for}
use Rattle.even_inputs.specs.Announced.{updates_of, announced_by}

-- A route to a prefix, by what its MED is compared with: the neighbour AS from which it comes (RFC 4271, section 9.1.2.2 (c)).
pub record Med : Type 0 where
  pub prefix : PrefixValue
  pub neighbour : ℕ
  pub med : ℕ

-- An absent MED is 0.
abbrev pub med_of : ℕ → PrefixValue → Route → Med
med_of home_as prefix route = record { prefix = prefix; neighbour = neighbour_of route.attrs.path home_as; med = unwrap_or route.attrs.med 0 }

-- a router's own networks
abbrev pub own_meds : Setup → RouterSetup → List Med
own_meds setup router = map (λ prefix. med_of setup.home_as prefix own_route) router.networks

-- an announced route, before any policy
abbrev pub announced_route : Attrs → Route
announced_route attrs = record { attrs = attrs; pref = 100 }

-- what the import policy of a session's name makes of an announced route at a router that has it; none where the router hasn't, or denies the route
abbrev pub let_in : Setup → SessionConfig → PrefixValue × Attrs → ℕ → Option Route
let_in setup config announced r =
    option_and_then (λ rules. policy rules announced.0 config.remote_as (announced_route announced.1)) (rules_for setup r config.import)

-- an announced route as it is, and as the routers that have the session's import policy let it in
abbrev pub meds_from : Setup → SessionConfig → PrefixValue × Attrs → List Med
meds_from setup config announced = med_of setup.home_as announced.0 (announced_route announced.1)
    ∷ filter_map (λ r. option_map (med_of setup.home_as announced.0) (let_in setup config announced r)) (router_numbers setup)

-- all routes that the remote of a peering announces over the script
abbrev pub meds_by : Setup → ℕ × PeeringSetup → List Med
meds_by setup p = flat_map (meds_from setup p.1.config) (flat_map announced_by (updates_of setup p.0 p.1))

-- all routes that some router could have by itself, wherever the sessions are
abbrev pub meds_in : Setup → List Med
meds_in setup = flat_map (own_meds setup) setup.routers ++ flat_map (meds_by setup) (enumerate_from 0 setup.peerings)

-- a route to this prefix, from this neighbour AS
abbrev pub is_between : PrefixValue → ℕ → Med → Bool
is_between prefix neighbour m = same_prefix m.prefix prefix && (m.neighbour == neighbour)

-- the MED of the first route to a prefix from a neighbour AS
abbrev pub first_med : List Med → PrefixValue → ℕ → ℕ
first_med meds prefix neighbour = unwrap_or (option_map (λ m. m.med) (find (is_between prefix neighbour) meds)) 0

abbrev pub are_even : List Med → Bool
are_even meds = list_all (λ m. m.med == first_med meds m.prefix m.neighbour) meds

-- Each route that a router could have by itself has the MED of the first one to its prefix from its neighbour AS.
abbrev pub is_even : Setup → Bool
is_even setup = are_even (meds_in setup)
