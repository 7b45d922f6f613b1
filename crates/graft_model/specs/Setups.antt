-- The input of a laboratory: the home network, the peerings, and the script of the operator.
use Rattle.std.specs.Prelude.{ℕ, ◌==◌, ◌+◌, Bool, true, false, List, [], ◌∷◌, ◌++◌, length, take, filter, min, ◌/◌, ◌^◌, All, ◌<◌}
use Rattle.std.specs.Prelude.{◌≤◌, ◌≡◌, Option, Some, None, option_map, unwrap_or, is_none, if◌then◌else◌, slice_get}
use Rattle.std.specs.List.{list_any, find, flat_map, range_with_len, last_or}
use Rattle.std.specs.Str.{bytes_eq}
use Rattle.bgp_types.specs.Prefixes.{PrefixValue, IsPrefix, same_prefix}
use Rattle.bgp_types.specs.Values.{is_no_host}
use Rattle.route_policy.specs.declared.rule.Rule.{Rule}
use Rattle.bgp_story.specs.Legal.{IsPeering}
use Rattle.session_value.specs.declared.config.SessionConfig.{SessionConfig}
use Rattle.session_value.specs.Sessions.{peering_of}

-- a policy by its name
pub record NamedRules : Type 0 where
  pub name : List ℕ
  pub rules : List Rule

-- a home router: its BGP Identifier, the number of sessions for which it has room, the interior cost to each router by number, its own networks, and
-- its policies
pub record RouterSetup : Type 0 where
  pub identifier : ℕ
  pub room : ℕ
  pub costs : List ℕ
  pub networks : List PrefixValue
  pub policies : List NamedRules

-- a peering: the router at which its session starts, the session's configuration, the bytes that its remote says first, the hold time that the
-- remote's OPEN offers, and whether the remote says KEEPALIVEs at an interval
pub record PeeringSetup : Type 0 where
  pub start : ℕ
  pub config : SessionConfig
  pub opening : List ℕ
  pub hold : ℕ
  pub beats : Bool

-- KEEPALIVE interval of the remote in rounds: a third of the hold time in force (RFC 4271, section 4.4), 0 for none.
abbrev pub keepalive_interval_of : PeeringSetup → ℕ
keepalive_interval_of peering = if peering.beats then min peering.config.home_hold peering.hold / 3 else 0

-- a step of the script: a remote says bytes, a graft of a peering to a target, grafts of all peerings of a router to others, or the end of a group
pub data ScriptStep : Type 0 where
  SayStep : (peering : ℕ) → List ℕ → ScriptStep
  MoveStep : (peering : ℕ) → (target : ℕ) → ScriptStep
  EvacuateStep : (router : ℕ) → ScriptStep
  SettleStep : ScriptStep

pub record Setup : Type 0 where
  pub home_as : ℕ
  pub routers : List RouterSetup
  pub peerings : List PeeringSetup
  pub steps : List ScriptStep

-- ---- by number

abbrev pub routers_in : Setup → ℕ
routers_in setup = length setup.routers

abbrev pub peerings_in : Setup → ℕ
peerings_in setup = length setup.peerings

-- the numbers of the routers, and of the peerings
abbrev pub router_numbers : Setup → List ℕ
router_numbers setup = range_with_len 0 (routers_in setup)

abbrev pub peering_numbers : Setup → List ℕ
peering_numbers setup = range_with_len 0 (peerings_in setup)

abbrev pub of_router : {A : Type 0} → (RouterSetup → A) → A → Setup → ℕ → A
of_router field none setup r = unwrap_or (option_map field (slice_get setup.routers r)) none

abbrev pub identifier_of : Setup → ℕ → ℕ
identifier_of setup r = of_router (λ router. router.identifier) 0 setup r

abbrev pub room_of : Setup → ℕ → ℕ
room_of setup r = of_router (λ router. router.room) 0 setup r

-- the interior cost from one router to another: 1 if none is given
abbrev pub cost_between : Setup → ℕ → ℕ → ℕ
cost_between setup r q = unwrap_or (slice_get (of_router (λ router. router.costs) [] setup r) q) 1

-- whether a network is a router's own
abbrev pub has_network : Setup → ℕ → PrefixValue → Bool
has_network setup r prefix = list_any (same_prefix prefix) (of_router (λ router. router.networks) [] setup r)

-- the rules of a router's policy of this name, if it has one
abbrev pub rules_named : Setup → ℕ → List ℕ → Option (List Rule)
rules_named setup r name = option_map (λ policy. policy.rules) (find (λ policy. bytes_eq name policy.name) (of_router (λ router. router.policies) [] setup r))

-- the rules that a router has for a session's name; none if the session names no policy
abbrev pub rules_for : Setup → ℕ → Option (List ℕ) → Option (List Rule)
rules_for setup r None = None
rules_for setup r (Some name) = rules_named setup r name

-- a name for which the router has no policy
abbrev pub unknown_policy : Setup → ℕ → Option (List ℕ) → Option (List ℕ)
unknown_policy setup r None = None
unknown_policy setup r (Some name) = if is_none (rules_named setup r name) then Some name else None

abbrev pub first_name : Option (List ℕ) → Option (List ℕ) → Option (List ℕ)
first_name None other = other
first_name (Some name) other = Some name

-- the first policy that a session names and a router doesn't have: the import policy before the export policy
abbrev pub missing_policy : Setup → ℕ → SessionConfig → Option (List ℕ)
missing_policy setup r config = first_name (unknown_policy setup r config.import) (unknown_policy setup r config.export)

-- the configuration with which the session of a peering begins
abbrev pub config_of : Setup → ℕ → Option SessionConfig
config_of setup p = option_map (λ peering. peering.config) (slice_get setup.peerings p)

-- the router at which a peering's session starts
abbrev pub start_of : Setup → ℕ → ℕ
start_of setup p = unwrap_or (option_map (λ peering. peering.start) (slice_get setup.peerings p)) 0

-- ---- the script

abbrev pub is_settle : ScriptStep → Bool
is_settle (SayStep peering bytes) = false
is_settle (MoveStep peering target) = false
is_settle (EvacuateStep router) = false
is_settle SettleStep = true

-- the group of a step, from 0: the number of groups that ended before it
abbrev pub group_of : Setup → ℕ → ℕ
group_of setup step = length (filter is_settle (take step setup.steps))

abbrev pub groups_in : Setup → ℕ
groups_in setup = length (filter is_settle setup.steps)

-- a graft that a step makes, or may make as its group begins: its number, its peering, and the step
pub record ScriptGraft : Type 0 where
  pub graft : ℕ
  pub peering : ℕ
  pub step : ℕ

-- the peerings whose sessions a step moves, or may move
abbrev pub moved_by : Setup → ScriptStep → List ℕ
moved_by setup (SayStep peering bytes) = []
moved_by setup (MoveStep peering target) = peering ∷ []
moved_by setup (EvacuateStep router) = peering_numbers setup
moved_by setup SettleStep = []

-- a graft of each of these peerings, by a step, numbered from k + 1 on
abbrev pub grafts_numbered : ℕ → ℕ → List ℕ → List ScriptGraft
grafts_numbered k step [] = []
grafts_numbered k step (p ∷ peerings) = record { graft = k + 1; peering = p; step = step } ∷ grafts_numbered (k + 1) step peerings

-- the grafts of steps, the first of which is step n, numbered from k + 1 on
abbrev pub grafts_after : Setup → ℕ → ℕ → List ScriptStep → List ScriptGraft
grafts_after setup k n [] = []
grafts_after setup k n (step ∷ steps) = grafts_numbered k n (moved_by setup step) ++ grafts_after setup (k + length (moved_by setup step)) (n + 1) steps

-- the grafts of the script, numbered from 1
abbrev pub grafts_in : Setup → List ScriptGraft
grafts_in setup = grafts_after setup 0 0 setup.steps

-- the number of grafts before a step
abbrev pub grafts_before : Setup → ℕ → ℕ
grafts_before setup step = length (grafts_after setup 0 0 (take step setup.steps))

-- the graft of a number
abbrev pub graft_at : Setup → ℕ → Option ScriptGraft
graft_at setup k = find (λ g. g.graft == k) (grafts_in setup)

-- ---- soundness

-- the bytes that a step has a remote say
abbrev pub said_by : ℕ → ScriptStep → List ℕ
said_by p (SayStep q bytes) = if q == p then bytes else []
said_by p (MoveStep peering target) = []
said_by p (EvacuateStep router) = []
said_by p SettleStep = []

-- how many bytes a remote says over the whole script, with its opening and without those by its timer
abbrev pub said_length : Setup → ℕ → PeeringSetup → ℕ
said_length setup p peering = length peering.opening + length (flat_map (said_by p) setup.steps)

-- A peering's session begins at one of the routers, with that router's identifier, and with the peering's number and the home AS of the laboratory.
-- Its OPEN can be put, and its address told as next hop. What its remote says has room in a stream of 1 MiB, with 27,594 KEEPALIVEs of 19 bytes if it
-- has an interval.
pub record IsPeeringSetup (setup : Setup) (p : ℕ) (peering : PeeringSetup) : Type 0 where
  pub start : peering.start < routers_in setup
  pub number : peering.config.peering.0 ≡ p
  pub home_as : peering.config.home_as ≡ setup.home_as
  pub identifier : peering.config.identifier ≡ identifier_of setup peering.start
  pub valid : IsPeering (peering_of peering.config)
  pub policies : missing_policy setup peering.start peering.config ≡ None
  pub next_hop : is_no_host peering.config.local_address ≡ false
  pub opening : length peering.opening ≤ 4096
  pub said : said_length setup p peering ≤ 2 ^ 20
  pub beats : 0 < keepalive_interval_of peering → said_length setup p peering ≤ 524288

-- how many of the peerings start at a router
abbrev pub starting_at : Setup → ℕ → ℕ
starting_at setup r = length (filter (λ peering. peering.start == r) setup.peerings)

-- the peering and the router of a step exist
abbrev pub IsStep : Setup → ScriptStep → Type 0
IsStep setup (SayStep peering bytes) = peering < peerings_in setup
IsStep setup (MoveStep peering target) = (peering < peerings_in setup) × (target < routers_in setup)
IsStep setup (EvacuateStep router) = router < routers_in setup
IsStep setup SettleStep = Unit {0}

-- What a laboratory can begin with: sound peerings, room for them where they start, and a script of sound steps whose last one ends a group.
pub record IsSetup (setup : Setup) : Type 0 where
  pub peerings : (p : ℕ) (peering : PeeringSetup) → slice_get setup.peerings p ≡ Some peering → IsPeeringSetup setup p peering
  pub room : (r : ℕ) → r < routers_in setup → starting_at setup r ≤ room_of setup r
  pub networks : All (λ router. All IsPrefix router.networks) setup.routers
  pub steps : All (IsStep setup) setup.steps
  pub ended : last_or None setup.steps ≡ Some SettleStep
