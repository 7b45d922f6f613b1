-- The tables that the script gives, for sessions that are placed so.
use Rattle.std.specs.Prelude.{ℕ, ◌≡◌, ◌<◌, ◌==◌, Some, None, Option, option_map, unwrap_or, map, filter, slice_get}
use Rattle.std.specs.List.{enumerate_from}
use Rattle.std.specs.FinMap as finmap
use Rattle.bgp_types.specs.Prefixes.{PrefixValue}
use Rattle.route_policy.specs.declared.best.Best.{Best}
use Rattle.route_policy.specs.Candidates.{SessionRoute}
use Rattle.session_value.specs.Sessions.{SessionValue, state}
use Rattle.graft_model.specs.Setups.{Setup, PeeringSetup, router_numbers, routers_in, identifier_of, cost_between, has_network, rules_for}
use Rattle.graft_model.specs.Parts.{Live, World}
use Rattle.graft_model.specs.OperatorRows.{placement}
use Rattle.even_meshes.specs.Meshes.{PrefixMesh, solution}
use Rattle.one_answer.specs.Settled.{said_in_all}
use Rattle.even_inputs.specs.Readings.{Reading, reading_of}

-- what a peering's session makes of all that its remote says over the script
abbrev pub reading_in : Setup → ℕ × PeeringSetup → Reading
reading_in setup p = reading_of p.1 (said_in_all setup p.0 p.1)

-- what that session brings in at a router for a prefix
abbrev pub read_route : Setup → ℕ → PrefixValue → ℕ × PeeringSetup → SessionRoute
read_route setup r prefix p = record {
  peering = p.1.config.peering;
  remote_as = p.1.config.remote_as;
  identifier = unwrap_or (option_map (λ opened. opened.identifier) (reading_in setup p).opened) 0;
  address = p.1.config.remote_address;
  import_rules = rules_for setup r p.1.config.import;
  heard = finmap.get (reading_in setup p).adj_rib_in prefix;
}

-- The home routers and what they have by themselves for a prefix, where each peering's session is placed so.
abbrev pub mesh_placed : Setup → (placed : ℕ → ℕ) → PrefixValue → PrefixMesh
mesh_placed setup placed prefix = record {
  home_as = setup.home_as;
  prefix = prefix;
  routers = router_numbers setup;
  has_network = λ r. has_network setup r prefix;
  sessions = λ r. map (read_route setup r prefix) (filter (λ p. placed p.0 == r) (enumerate_from 0 setup.peerings));
  identifier = identifier_of setup;
  cost = cost_between setup;
}

-- a router's best route to a prefix, by the laboratory and the places of sessions alone
abbrev pub solution_of : Setup → (placed : ℕ → ℕ) → (r : ℕ) → PrefixValue → Option Best
solution_of setup placed r prefix = solution (mesh_placed setup placed prefix) r

-- A peering's session is live at this router, in the state and with the routes that the reading of all that its remote says has.
pub record IsLiveAsRead (setup : Setup) (w : World) (r p : ℕ) (peering : PeeringSetup) : Type 0 where
  pub session : SessionValue
  pub here : (w.router r).places p ≡ Live session None
  pub state_is : state session ≡ (reading_in setup (p, peering)).state
  pub adj_rib_in : session.adj_rib_in ≡ (reading_in setup (p, peering)).adj_rib_in

-- Tables and sessions are those that the script gives for the places of the sessions by the log.
pub record IsTheSolution (setup : Setup) (w : World) : Type 0 where
  pub best : (r : ℕ) (prefix : PrefixValue) → r < routers_in setup
      → finmap.get (w.router r).best prefix ≡ solution_of setup (placement setup w.operator) r prefix
  pub sessions : (p : ℕ) (peering : PeeringSetup) → slice_get setup.peerings p ≡ Some peering → IsLiveAsRead setup w (placement setup w.operator p) p peering
