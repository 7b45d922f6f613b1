-- The laboratory of the rows: three routers, of which the last has a network of its own; five peerings, of which two start at router 0, one at
-- router 2 and two at router 1; and an empty script.
use Rattle.std.specs.Prelude.{ℕ, ◌+◌, ◌*◌, List, [], ◌∷◌, Option, None, Some, false}
use Rattle.route_policy.specs.declared.rule.Rule.{Rule}
use Rattle.session_value.specs.declared.config.SessionConfig.{SessionConfig}
use Rattle.bgp_types.specs.Prefixes.{PrefixValue}
use Rattle.actor_configs.specs.declared.router.Firsts.{Firsts}
use Rattle.actor_configs.specs.declared.router.NamedPolicy.{NamedPolicy}
use Rattle.actor_configs.specs.declared.router.RouterConfig.{RouterConfig}
use Rattle.graft_model.specs.Setups.{Setup, PeeringSetup, SettleStep}

-- the names of the policies: `in` and `out`
abbrev pub in_name : List ℕ
in_name = 105 ∷ 110 ∷ []

abbrev pub out_name : List ℕ
out_name = 111 ∷ 117 ∷ 116 ∷ []

-- the rule that sets a preference of 200
abbrev pub prefers : Rule
prefers = record { within = None; has_as = None; origin = None; deny = false; pref = Some 200; med = None; prepend = 0 }

-- the initial sequence numbers of each peering
abbrev pub first_numbers : Firsts
first_numbers = record { home = record { 0 = 1000 }; remote = record { 0 = 5000 } }

abbrev pub all_firsts : List Firsts
all_firsts = first_numbers ∷ first_numbers ∷ first_numbers ∷ first_numbers ∷ first_numbers ∷ []

-- the configuration of a peering's session, by its number, its identifier, its hold time and its policies
abbrev pub session_of : (p identifier hold : ℕ) → (import export : Option (List ℕ)) → SessionConfig
session_of p identifier hold import export = record {
  peering = record { 0 = p };
  home_as = 65000;
  identifier = identifier;
  remote_as = 65001 + p;
  offered = false;
  unicast = false;
  home_hold = hold;
  remote_address = 0xC0000201 + 4 * p;
  local_address = 0xC0000201 + 4 * p + 1;
  send_first = record { 0 = 1000 };
  receive_first = record { 0 = 5000 };
  import = import;
  export = export;
}

-- the configuration of a router, by its number, its room, its policies, its networks and the sessions that start there
abbrev pub config_with : (number room : ℕ) → List NamedPolicy → List PrefixValue → List SessionConfig → RouterConfig
config_with number room policies networks sessions = record {
  number = record { 0 = number };
  routers = 3;
  room = room;
  policies = policies;
  rib = record { home_as = 65000; router = record { 0 = number }; identifiers = 0x0AFF0001 ∷ 0x0AFF0002 ∷ 0x0AFF0003 ∷ []; costs = []; networks = networks };
  firsts = all_firsts;
  sessions = sessions;
}

-- a peering by the router at which its session starts, with the configuration of the session; its remote says nothing by itself
abbrev pub peering : ℕ → SessionConfig → PeeringSetup
peering start config = record { start = start; config = config; opening = []; hold = 180; beats = false }

abbrev pub laboratory : Setup
laboratory = record {
  home_as = 65000;
  routers =
      record { identifier = 0x0AFF0001; room = 4; costs = []; networks = []; policies = record { name = in_name; rules = [] } ∷ [] }
      ∷ record {
        identifier = 0x0AFF0002;
        room = 4;
        costs = [];
        networks = [];
        policies = record { name = in_name; rules = prefers ∷ [] } ∷ record { name = out_name; rules = [] } ∷ [];
      }
      ∷ record { identifier = 0x0AFF0003; room = 2; costs = []; networks = record { address = 0xC6336400; len = 24 } ∷ []; policies = [] }
      ∷ [];
  peerings =
      peering 0 (session_of 0 0x0AFF0001 0 None None)
      ∷ peering 0 (session_of 1 0x0AFF0001 0 None None)
      ∷ peering 2 (session_of 2 0x0AFF0003 0 None None)
      ∷ peering 1 (session_of 3 0x0AFF0002 0 (Some in_name) (Some out_name))
      ∷ peering 1 (session_of 4 0x0AFF0002 90 (Some in_name) None)
      ∷ [];
  steps = SettleStep ∷ [];
}
