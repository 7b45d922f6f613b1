-- What a router takes in, decides and tells (RFC 4271, section 9.1).
use Rattle.std.specs.Prelude.{ℕ, ◌++◌, false, Option, option_map, unwrap_or}
use Rattle.std.specs.FinMap as map
use Rattle.std.specs.List.{filter_map}
use Rattle.bgp_types.specs.declared.attrs.Attrs.{Attrs}
use Rattle.bgp_types.specs.declared.attrs.Route.{Route}
use Rattle.bgp_types.specs.declared.rank.From.TheVariants.{Router}
use Rattle.bgp_types.specs.Prefixes.{PrefixValue}
use Rattle.bgp_story.specs.Legal.{got_open}
use Rattle.decision_core.specs.Choice.{choice}
use Rattle.route_policy.specs.Candidates.{SessionRoute, Candidate, imported, own_candidates, rank_of}
pub use Rattle.route_policy.specs.Candidates.{entry_candidate}
use Rattle.route_policy.specs.Telling.{OutSide, tell_out}
use Rattle.route_policy.specs.declared.best.Best.{Best}
use Rattle.session_value.specs.declared.config.SessionConfig.{SessionConfig}
use Rattle.session_value.specs.Sessions.{SessionValue, peering_of}
use Rattle.graft_model.specs.Setups.{Setup, identifier_of, cost_between, has_network, rules_for, peering_numbers, router_numbers}
use Rattle.graft_model.specs.Parts.{RouterPart, Entry}

-- ---- taking in

-- the BGP Identifier in the remote's OPEN
abbrev pub remote_identifier : SessionValue → ℕ
remote_identifier session = unwrap_or (option_map (λ o. o.identifier) (got_open (peering_of session.config) session.story)) 0

-- what a session brings in at a router for a prefix
abbrev pub session_route : Setup → ℕ → SessionValue → PrefixValue → SessionRoute
session_route setup r session prefix = record {
  peering = session.config.peering;
  remote_as = session.config.remote_as;
  identifier = remote_identifier session;
  address = session.config.remote_address;
  import_rules = rules_for setup r session.config.import;
  heard = map.get session.adj_rib_in prefix;
}

-- the entry that the router makes of it, by its own import policy
abbrev pub entry_of : Setup → ℕ → SessionValue → PrefixValue → Option Entry
entry_of setup r session prefix = option_map
    (λ route. record { route = route; identifier = remote_identifier session; address = session.config.remote_address })
    (imported setup.home_as prefix (session_route setup r session prefix) (map.get session.adj_rib_in prefix))

-- ---- deciding

-- a told route has the telling router's identifier as its identifier and its address
abbrev pub telling_candidate : Setup → ℕ → ℕ → Option Route → Option Candidate
telling_candidate setup r q telling = option_map (λ route. (
  record { from = Router (record { 0 = q }); route = route },
  rank_of setup.home_as false (cost_between setup r q) (identifier_of setup q) (identifier_of setup q) route,
)) telling

-- The choice of a router between its own network, the entries of the peerings in ascending order, and those of the routers in ascending order (RFC
-- 4271, section 9.1.2).
abbrev pub chosen : Setup → ℕ → RouterPart → PrefixValue → Option Best
chosen setup r part prefix = choice (
    own_candidates setup.home_as (has_network setup r prefix)
    ++ filter_map (λ p. entry_candidate setup.home_as p (map.get (part.entries p) prefix)) (peering_numbers setup)
    ++ filter_map (λ q. telling_candidate setup r q (map.get (part.tellings q) prefix)) (router_numbers setup))

-- ---- telling

abbrev pub out_side : Setup → ℕ → SessionConfig → OutSide
out_side setup r config =
    record { peering = config.peering; remote_as = config.remote_as; local_address = config.local_address; export_rules = rules_for setup r config.export }

-- what is to be told on a session at a router for a prefix
abbrev pub to_tell : Setup → ℕ → RouterPart → SessionValue → PrefixValue → Option Attrs
to_tell setup r part session prefix = tell_out setup.home_as (out_side setup r session.config) prefix (map.get part.best prefix)
