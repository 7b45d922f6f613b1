-- A worked laboratory: home AS 65000, routers a and b with the same policy, and a peering at each whose remote of AS 65001 announces 10.0.0.0/8 by one UPDATE.
use Rattle.std.specs.Prelude.{ℕ, List, [], ◌∷◌, ◌++◌, Some, None, false}
use Rattle.bgp_types.specs.Spelling.{framed}
use Rattle.bgp_story.specs.WorkedSessions.{open_bytes, keepalive_bytes}
use Rattle.route_policy.specs.declared.rule.Rule.{Rule}
use Rattle.graft_model.specs.SmallWorlds.{config}
use Rattle.graft_model.specs.Setups.{Setup, RouterSetup, PeeringSetup, SayStep, SettleStep}

-- "in"
abbrev pub policy_name : List ℕ
policy_name = 0x69 ∷ 0x6E ∷ []

abbrev pub router : ℕ → List Rule → RouterSetup
router identifier rules = record {
  identifier = identifier;
  room = 4;
  costs = 1 ∷ 1 ∷ [];
  networks = [];
  policies = record { name = policy_name; rules = rules } ∷ [];
}

abbrev pub peering : (number : ℕ) → PeeringSetup
peering number = record {
  start = number;
  config = record config { peering = record { 0 = number }; import = Some policy_name };
  opening = open_bytes ++ keepalive_bytes;
  hold = 180;
  beats = false;
}

-- an UPDATE of one prefix of 8 bits, by its octet, with ORIGIN IGP, a path of one AS, by its second octet behind 0xFD, next hop 192.0.2.1, and this MED
abbrev pub announces : (prefix as_octet med : ℕ) → List ℕ
announces prefix as_octet med = framed 2 (0x00 ∷ 0x00 ∷ 0x00 ∷ 0x19
    ∷ 0x40 ∷ 0x01 ∷ 0x01 ∷ 0x00
    ∷ 0x40 ∷ 0x02 ∷ 0x04 ∷ 0x02 ∷ 0x01 ∷ 0xFD ∷ as_octet
    ∷ 0x40 ∷ 0x03 ∷ 0x04 ∷ 0xC0 ∷ 0x00 ∷ 0x02 ∷ 0x01
    ∷ 0x80 ∷ 0x04 ∷ 0x04 ∷ 0x00 ∷ 0x00 ∷ 0x00 ∷ med
    ∷ 0x08 ∷ prefix ∷ [])

-- 10.0.0.0/8 from AS 65001
abbrev pub with_med : (med : ℕ) → List ℕ
with_med med = announces 0x0A 0xE9 med

-- 10.0.0.0/8 from AS 65002
abbrev pub from_another : (med : ℕ) → List ℕ
from_another med = announces 0x0A 0xEA med

-- 11.0.0.0/8 from AS 65001
abbrev pub of_eleven : (med : ℕ) → List ℕ
of_eleven med = announces 0x0B 0xE9 med

-- the laboratory in which the two remotes say these, under these rules
abbrev pub even_laboratory : (first second : List ℕ) → List Rule → Setup
even_laboratory first second rules = record {
  home_as = 65000;
  routers = router 0x0AFF0001 rules ∷ router 0x0AFF0002 rules ∷ [];
  peerings = peering 0 ∷ peering 1 ∷ [];
  steps = SayStep 0 first ∷ SayStep 1 second ∷ SettleStep ∷ [];
}

-- a rule that matches every route, and sets the MED to 5
abbrev pub sets_med : Rule
sets_med = record { within = None; has_as = None; origin = None; deny = false; pref = None; med = Some 5; prepend = 0 }
