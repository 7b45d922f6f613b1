-- What evacuate steps give as their group begins, by the seats.
use Rattle.std.specs.Prelude.{ℕ, ◌+◌, ◌-◌, ◌==◌, if◌then◌else◌, List, [], ◌∷◌, length, map, count_by, Option, Some, None, slice_set}
use Rattle.std.specs.List.{range_with_len, zip}
use Rattle.graft_edge.specs.declared.ids.PeeringId.{PeeringId}
use Rattle.graft_edge.specs.declared.ids.RouterId.{RouterId}
use Rattle.evacuation.specs.Plans.{plan_for}
use Rattle.operator_state.specs.declared.grafts.Seat.{Seat}
use Rattle.operator_state.specs.declared.grafts.Slot.{Slot}
use Rattle.operator_state.specs.declared.grafts.Slot.TheVariants.{Stays, Made}
use Rattle.operator_state.specs.declared.evacuate.Gift.{Gift}
use Rattle.actor_configs.specs.declared.script.ScriptStep.{ScriptStep}
use Rattle.actor_configs.specs.declared.script.ScriptStep.TheVariants.{Evacuate}
use Rattle.operator_state.specs.Slots.{waiting_entry}

-- the number of sessions that belong at a router
abbrev pub load_of : List Seat → ℕ → ℕ
load_of seats r = count_by (λ seat. seat.place.0 == r) seats

abbrev pub seat_loads : List Seat → ℕ → List ℕ
seat_loads seats routers = map (load_of seats) (range_with_len 0 routers)

-- the peerings whose sessions belong at a router, where the first seat is that of peering p
abbrev pub seated_from : ℕ → RouterId → List Seat → List PeeringId
seated_from p router [] = []
seated_from p router (seat ∷ seats) = if seat.place.0 == router.0 then record { 0 = p } ∷ seated_from (p + 1) router seats else seated_from (p + 1) router seats

-- what a session of the router is given, if the first graft of the step has this number
abbrev pub gift_for : ℕ → RouterId → PeeringId × Option RouterId → Gift
gift_for first router entry = record { graft = first + entry.0.0; peering = entry.0; router = router; target = entry.1 }

abbrev pub gifts_to : ℕ → RouterId → List Seat → List ℕ → List ℕ → List Gift
gifts_to first router seats loads rooms =
    map (gift_for first router) (zip (seated_from 0 router seats) (plan_for rooms router.0 loads (length (seated_from 0 router seats))))

-- what a step gives, if its first graft has this number
abbrev pub gifts_by : List Seat → List ℕ → List ℕ → ℕ → ScriptStep → List Gift
gifts_by seats loads rooms number (Evacuate router) = gifts_to number router seats loads rooms
gifts_by seats loads rooms number step = []

-- the slot for what is given
abbrev pub slot_to : ℕ → PeeringId → RouterId → Option RouterId → Slot
slot_to k p router None = Stays k p router
slot_to k p router (Some target) = Made (waiting_entry k (record { peering = p; target = target }))

abbrev pub given_slot : Gift → Slot
given_slot gift = slot_to gift.graft gift.peering gift.router gift.target

-- the slots, with what is given put into them
abbrev pub give : List Gift → List Slot → List Slot
give [] xs = xs
give (gift ∷ gifts) xs = give gifts (slice_set xs (gift.graft - 1) (given_slot gift))
