-- The laboratory of the rows: three routers, two peerings, which start at routers 0 and 1, and a script of two groups.
use Rattle.std.specs.Prelude.{ℕ, List, [], ◌∷◌, None, true, false}
use Rattle.graft_model.specs.Setups.{Setup, RouterSetup, PeeringSetup, SayStep, MoveStep, SettleStep}

abbrev router : RouterSetup
router = record { identifier = 1; room = 4; costs = []; networks = []; policies = [] }

-- a peering by its number, which starts at the router of the same number, and what its remote says first
abbrev peering : ℕ → List ℕ → PeeringSetup
peering p opening = record {
  start = p;
  config = record {
    peering = record { 0 = p };
    home_as = 65000;
    identifier = 1;
    remote_as = 65001;
    offered = false;
    unicast = false;
    home_hold = 15;
    remote_address = 2;
    local_address = 3;
    send_first = record { 0 = 1000 };
    receive_first = record { 0 = 5000 };
    import = None;
    export = None;
  };
  opening = opening;
  hold = 15;
  beats = true;
}

-- the laboratory in which the remote of peering 0 says these bytes: at first, and at steps 0, 2 and 7
abbrev pub laboratory : (opening first second third : List ℕ) → Setup
laboratory opening first second third = record {
  home_as = 65000;
  routers = router ∷ router ∷ router ∷ [];
  peerings = peering 0 opening ∷ peering 1 [] ∷ [];
  steps = SayStep 0 first ∷ MoveStep 0 1 ∷ SayStep 0 second ∷ MoveStep 0 2 ∷ SayStep 1 [] ∷ MoveStep 0 0 ∷ SettleStep ∷ SayStep 0 third ∷ SettleStep ∷ [];
}
