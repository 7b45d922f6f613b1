-- The worked laboratory: home AS 65000, the routers a and b, and one peering with the remote AS 65001 that starts at a. The remote announces
-- 10.0.0.0/8, all settles, the peering is grafted from a to b, and all settles again.
use Rattle.std.specs.Prelude.{[], ◌∷◌, ◌++◌, false}
use Rattle.bgp_story.specs.WorkedSessions.{open_bytes, keepalive_bytes, update_bytes}
use Rattle.graft_model.specs.SmallWorlds.{config}
use Rattle.graft_model.specs.Setups.{Setup, RouterSetup, PeeringSetup, SayStep, MoveStep, SettleStep}

-- router a is number 0, 10.255.0.1; router b is number 1, 10.255.0.2
abbrev pub router_a : RouterSetup
router_a = record { identifier = 0x0AFF0001; room = 4; costs = 0 ∷ 1 ∷ []; networks = []; policies = [] }

abbrev pub router_b : RouterSetup
router_b = record { identifier = 0x0AFF0002; room = 4; costs = 1 ∷ 0 ∷ []; networks = []; policies = [] }

-- Peering c1 is number 0, with the remote 192.0.2.1 and the own address 192.0.2.2. The remote first says its OPEN, of hold time 180, and a KEEPALIVE.
abbrev pub peering_c : PeeringSetup
peering_c = record { start = 0; config = config; opening = open_bytes ++ keepalive_bytes; hold = 180; beats = false }

abbrev pub base : Setup
base = record {
  home_as = 65000;
  routers = router_a ∷ router_b ∷ [];
  peerings = peering_c ∷ [];
  steps = SayStep 0 update_bytes ∷ SettleStep ∷ MoveStep 0 1 ∷ SettleStep ∷ [];
}
