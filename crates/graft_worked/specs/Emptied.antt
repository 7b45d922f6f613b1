-- A laboratory of three routers, of which the first one is emptied in the first group. Router c has one
-- place, and the room of router b is given. At a start the sessions of c1, c2 and c3, at b that of d1.
use Rattle.std.specs.Prelude.{ℕ, [], ◌∷◌, Some, None}
use Rattle.graft_model.specs.First.{first_operator}
use Rattle.graft_model.specs.Points.{at}
use Rattle.graft_model.specs.Setups.{Setup, RouterSetup, PeeringSetup, EvacuateStep, SettleStep}
use Rattle.graft_model.specs.Parts.{OperatorPart, GraftOrder}
use Rattle.graft_model.specs.SmallWorlds.{config}
use Rattle.graft_worked.specs.Base.{peering_c}

-- a router with this identifier and room, and an interior cost of 1 to each other router
abbrev pub router_with : (identifier room : ℕ) → RouterSetup
router_with identifier room = record { identifier = identifier; room = room; costs = []; networks = []; policies = [] }

-- a peering of this number, whose session starts at a router of this number and identifier
abbrev pub starting : (number router identifier : ℕ) → PeeringSetup
starting number router identifier = record peering_c { start = router; config = record config { peering = record { 0 = number }; identifier = identifier } }

abbrev pub emptying : (room_of_b : ℕ) → Setup
emptying room_of_b = record {
  home_as = 65000;
  routers = router_with 0x0AFF0001 4 ∷ router_with 0x0AFF0002 room_of_b ∷ router_with 0x0AFF0003 1 ∷ [];
  peerings = starting 0 0 0x0AFF0001 ∷ starting 1 0 0x0AFF0001 ∷ starting 2 0 0x0AFF0001 ∷ starting 3 1 0x0AFF0002 ∷ [];
  steps = EvacuateStep 0 ∷ SettleStep ∷ [];
}

-- the operator as the first group begins, first with room for four sessions at b, then with room only for the one that starts there
abbrev pub with_room : OperatorPart
with_room = first_operator (emptying 4)

abbrev pub without_room : OperatorPart
without_room = first_operator (emptying 1)

-- graft 2 moves c2 to router b
abbrev pub order_of_c2 : GraftOrder
order_of_c2 = record { graft = 2; peering = 1; target = 1 }

abbrev pub with_order : OperatorPart
with_order = record with_room { source = at (λ k. None) 2 (Some 0) }
