-- The model's laboratory that an input describes.
use Rattle.std.specs.Prelude.{ℕ, ◌==◌, Bool, false, ◌&&◌, List, [], ◌∷◌, ◌++◌, length, map, find, Option, Some, None, option_map, unwrap_or, slice_get}
use Rattle.std.specs.List.{enumerate_from, range_with_len, last_or}
use Rattle.bgp_types.specs.declared.message.Message.TheVariants.{UpdateMsg}
use Rattle.bgp_types.specs.Spelling.{spell}
use Rattle.session_value.specs.declared.config.SessionConfig.{SessionConfig}
use Rattle.graft_model.specs.Setups.{NamedRules, RouterSetup, PeeringSetup, ScriptStep, SayStep, MoveStep, EvacuateStep, SettleStep, Setup}
use Rattle.lab_tables.specs.declared.input.LabInput.{LabInput}
use Rattle.lab_tables.specs.declared.input.CostInput.{CostInput}
use Rattle.lab_tables.specs.declared.input.PeeringInput.{PeeringInput}
use Rattle.lab_tables.specs.declared.input.PolicyInput.{PolicyInput}
use Rattle.lab_tables.specs.declared.input.RouterInput.{RouterInput}
use Rattle.lab_tables.specs.declared.input.Step.{Step}
use Rattle.lab_tables.specs.declared.input.Step.TheVariants.{Announce, Withdraw, Raw, Graft, Settle, Evacuate}
use Rattle.lab_input.specs.Said.{step_update}
use Rattle.lab_input.specs.Counts.{is_wide}

-- ---- routers

-- the interior cost from one router to another: 1 where none is given
abbrev pub cost_from : List CostInput → (from to : ℕ) → ℕ
cost_from costs from to = unwrap_or (option_map (λ c. c.cost) (find (λ c. (c.from.0 == from) && (c.to.0 == to)) costs)) 1

-- the costs from a router to each router, by number
abbrev pub costs_from : LabInput → ℕ → List ℕ
costs_from input r = map (cost_from input.costs r) (range_with_len 0 (length input.routers))

abbrev pub named_rules : PolicyInput → NamedRules
named_rules p = record { name = p.name; rules = p.rules }

-- a router and its number
abbrev pub router_setup : LabInput → ℕ × RouterInput → RouterSetup
router_setup input r = record {
  identifier = r.1.id;
  room = r.1.sessions;
  costs = costs_from input r.0;
  networks = r.1.networks;
  policies = map named_rules r.1.policies;
}

-- ---- peerings

-- the BGP Identifier of the router of this number
abbrev pub identifier_at : LabInput → ℕ → ℕ
identifier_at input r = unwrap_or (option_map (λ router. router.id) (slice_get input.routers r)) 0

-- what the session of a peering begins with; the peering stands with its number
abbrev pub peering_config : LabInput → ℕ × PeeringInput → SessionConfig
peering_config input p = record {
  peering = record { 0 = p.0 };
  home_as = input.home_as;
  identifier = identifier_at input p.1.at.0;
  remote_as = p.1.remote_as;
  offered = p.1.as4;
  unicast = p.1.unicast;
  home_hold = p.1.home_hold;
  remote_address = p.1.remote_address;
  local_address = p.1.local_address;
  send_first = record { 0 = p.1.home_seq };
  receive_first = record { 0 = p.1.remote_seq };
  «import» = p.1.«import»;
  export = p.1.export;
}

abbrev pub peering_setup : LabInput → ℕ × PeeringInput → PeeringSetup
peering_setup input p = record {
  start = p.1.at.0;
  config = peering_config input p;
  opening = p.1.opening;
  hold = p.1.hold;
  beats = p.1.beats;
}

-- ---- the script

-- whether the remote of this number speaks with AS numbers of four octets
abbrev pub is_wide_at : List PeeringInput → ℕ → Bool
is_wide_at peerings p = unwrap_or (option_map is_wide (slice_get peerings p)) false

-- What a step is in the script: a remote says an UPDATE or bytes, a session moves, the sessions of a router move, or a group ends.
abbrev pub script_step : List PeeringInput → Step → ScriptStep
script_step peerings (Announce peering prefixes a) =
    SayStep peering.0 (spell (UpdateMsg (step_update (Announce peering prefixes a))) (is_wide_at peerings peering.0))
script_step peerings (Withdraw peering prefixes) =
    SayStep peering.0 (spell (UpdateMsg (step_update (Withdraw peering prefixes))) (is_wide_at peerings peering.0))
script_step peerings (Raw peering bytes) = SayStep peering.0 bytes
script_step peerings (Graft peering target) = MoveStep peering.0 target.0
script_step peerings (Settle rounds least) = SettleStep
script_step peerings (Evacuate router) = EvacuateStep router.0

-- where the last step isn't a settle, one is added
abbrev pub ended_by : Option ScriptStep → List ScriptStep
ended_by (Some SettleStep) = []
ended_by _ = SettleStep ∷ []

abbrev pub ended : List ScriptStep → List ScriptStep
ended steps = steps ++ ended_by (last_or None steps)

-- ---- the whole

unfoldable pub setup_of : LabInput → Setup
setup_of input = record {
  home_as = input.home_as;
  routers = map (router_setup input) (enumerate_from 0 input.routers);
  peerings = map (peering_setup input) (enumerate_from 0 input.peerings);
  steps = ended (map (script_step input.peerings) input.steps);
}
