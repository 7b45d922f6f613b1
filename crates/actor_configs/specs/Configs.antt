-- Which configuration is that of a router of a laboratory.
use Rattle.std.specs.Prelude.{ℕ, ◌≡◌, ◌<◌, ◌≤◌, ◌==◌, List, Option, Some, None, map, filter, option_map, slice_get}
use Rattle.std.specs.List.{find}
use Rattle.std.specs.Str.{bytes_eq}
use Rattle.bgp_types.specs.Prefixes.{PrefixValue}
use Rattle.rib_stages.specs.declared.config.RibConfig.{RibConfig}
use Rattle.rib_stages.specs.Choosing as of_rib
use Rattle.route_policy.specs.declared.rule.Rule.{Rule}
use Rattle.session_value.specs.declared.config.SessionConfig.{SessionConfig}
use Rattle.graft_model.specs.Setups.{Setup, cost_between, has_network, identifier_of, peerings_in, room_of, routers_in, rules_named}
use Rattle.graft_actors.specs.Items.{home_first, remote_first}
use Rattle.actor_configs.specs.declared.router.Firsts.{Firsts}
use Rattle.actor_configs.specs.declared.router.NamedPolicy.{NamedPolicy}
use Rattle.actor_configs.specs.declared.router.RouterConfig.{RouterConfig}

-- the rules of the first policy of this name
abbrev pub rules_at : List NamedPolicy → List ℕ → Option (List Rule)
rules_at policies name = option_map (λ p. p.policy) (find (λ p. bytes_eq name p.name) policies)

-- the policies are those of a router of a laboratory
pub record ArePoliciesOf (setup : Setup) (r : ℕ) (policies : List NamedPolicy) : Type 0 where
  pub each : (name : List ℕ) → rules_at policies name ≡ rules_named setup r name

-- the initial sequence number of each side of a peering
abbrev pub firsts_at : List Firsts → ℕ → Option (ℕ × ℕ)
firsts_at firsts p = option_map (λ x. (x.home.0, x.remote.0)) (slice_get firsts p)

pub record AreFirstsOf (setup : Setup) (firsts : List Firsts) : Type 0 where
  pub each : (p : ℕ) → p < peerings_in setup → firsts_at firsts p ≡ Some (home_first setup p, remote_first setup p)
  pub none : (p : ℕ) → peerings_in setup ≤ p → firsts_at firsts p ≡ None

-- The tables of a router are configured as the laboratory has it: its AS, its networks, and what it knows of the other routers.
pub record IsRibOf (setup : Setup) (r : ℕ) (rib : RibConfig) : Type 0 where
  pub home_as : rib.home_as ≡ setup.home_as
  pub number : rib.router.0 ≡ r
  pub networks : (x : PrefixValue) → of_rib.has_network rib x ≡ has_network setup r x
  pub identifiers : (q : ℕ) → of_rib.identifier_of rib q ≡ identifier_of setup q
  pub costs : (q : ℕ) → of_rib.cost_to rib q ≡ cost_between setup r q

-- the sessions that start at a router, in ascending order of peering
abbrev pub starting_here : Setup → ℕ → List SessionConfig
starting_here setup r = map (λ peering. peering.config) (filter (λ peering. peering.start == r) setup.peerings)

-- A configuration is that of a router of a laboratory, of at most 256 routers and 256 peerings.
pub record IsRouterConfigOf (setup : Setup) (config : RouterConfig) : Type 0 where
  pub there : config.number.0 < routers_in setup
  pub few_routers : routers_in setup ≤ 256
  pub few_peerings : peerings_in setup ≤ 256
  pub routers : config.routers ≡ routers_in setup
  pub room : config.room ≡ room_of setup config.number.0
  pub policies : ArePoliciesOf setup config.number.0 config.policies
  pub firsts : AreFirstsOf setup config.firsts
  pub rib : IsRibOf setup config.number.0 config.rib
  pub sessions : config.sessions ≡ starting_here setup config.number.0
