-- What an evacuate step does as its group begins: it gives the peerings of its router to the others.
use Rattle.std.specs.Prelude.{ℕ, ◌≡◌, ◌==◌, if◌then◌else◌, List, length, map, min, filter, find, zip, Option, Some, None, slice_get}
use Rattle.graft_edge.specs.declared.ids.RouterId.{RouterId}
use Rattle.evacuation.specs.Plans.{TargetList, plan_for, KeepsRooms, GivesAll, AreAtMost, number_given, free_places}
use Rattle.graft_model.specs.Setups.{Setup, ScriptStep, EvacuateStep, ScriptGraft, router_numbers, peering_numbers, group_of, graft_at}
use Rattle.graft_model.specs.Parts.{Gift, Unmade, To, Stays, OperatorPart}
use Rattle.graft_model.specs.Placements.{placement}

-- the peerings that are placed at a router, in ascending order
abbrev pub peerings_at : Setup → (ℕ → ℕ) → ℕ → List ℕ
peerings_at setup placed r = filter (λ p. placed p == r) (peering_numbers setup)

-- the load of each router: the number of peerings placed there
abbrev pub loads_of : Setup → (ℕ → ℕ) → List ℕ
loads_of setup placed = map (λ r. length (peerings_at setup placed r)) (router_numbers setup)

abbrev pub rooms_of : Setup → List ℕ
rooms_of setup = map (λ router. router.room) setup.routers

-- for each peering of a router in turn, the router that it goes to, or none
abbrev pub targets_from : Setup → (ℕ → ℕ) → ℕ → TargetList
targets_from setup placed r = plan_for (rooms_of setup) r (loads_of setup placed) (length (peerings_at setup placed r))

-- The sessions of a router that is emptied are given out in the best way: no router exceeds its room; as many get a target as there are free places;
-- and if all get one, no other way to give all has a lower maximum load among the other routers.
pub record AreGivenWell (setup : Setup) (placed : ℕ → ℕ) (router : ℕ) : Type 0 where
  pub each : length (targets_from setup placed router) ≡ length (peerings_at setup placed router)
  pub room : KeepsRooms (loads_of setup placed) (rooms_of setup) router (targets_from setup placed router)
  pub as_many : number_given (targets_from setup placed router)
      ≡ min (length (peerings_at setup placed router)) (free_places (loads_of setup placed) (rooms_of setup) router)
  pub least : number_given (targets_from setup placed router) ≡ length (peerings_at setup placed router)
      → (other : TargetList) → GivesAll (loads_of setup placed) (rooms_of setup) router (length (peerings_at setup placed router)) other
      → (most : ℕ) → AreAtMost most (loads_of setup placed) router other → AreAtMost most (loads_of setup placed) router (targets_from setup placed router)

abbrev pub gift_in : ℕ → Option RouterId → Gift
gift_in r None = Stays r
gift_in r (Some target) = To target.0

abbrev pub gift_of : ℕ → Option (ℕ × Option RouterId) → Gift
gift_of r None = Unmade
gift_of r (Some entry) = gift_in r entry.1

-- what a peering is given when the router r is emptied: nothing if it is placed elsewhere
abbrev pub gift_to : Setup → (ℕ → ℕ) → ℕ → ℕ → Gift
gift_to setup placed r p = gift_of r (find (λ entry. entry.0 == p) (zip (peerings_at setup placed r) (targets_from setup placed r)))

-- what a graft of a step is given
abbrev pub gift_by : Setup → (ℕ → ℕ) → Option ScriptStep → ℕ → Gift
gift_by setup placed (Some (EvacuateStep router)) p = gift_to setup placed router p
gift_by setup placed _ p = Unmade

-- what a graft is given as a group begins
abbrev pub gift_in_group : Setup → ℕ → (ℕ → ℕ) → Option ScriptGraft → Gift
gift_in_group setup group placed None = Unmade
gift_in_group setup group placed (Some g) = if group_of setup g.step == group then gift_by setup placed (slice_get setup.steps g.step) g.peering else Unmade

abbrev pub gift_or : Gift → Gift → Gift
gift_or Unmade other = other
gift_or gift other = gift

-- The operator as its group begins: the group's evacuate steps give out their grafts, by where sessions belong then.
abbrev pub with_gifts : Setup → OperatorPart → OperatorPart
with_gifts setup part = record part { given = λ k. gift_or (gift_in_group setup part.group (placement setup part) (graft_at setup k)) (part.given k) }

-- An evacuate step gives each session of its router what the plan has for it, by where sessions belonged before the group began, and these are given
-- in the best way.
pub record GivesByPlan (setup : Setup) (before after : OperatorPart) (step router : ℕ) : Type 0 where
  pub given : (g : ScriptGraft) → graft_at setup g.graft ≡ Some g → g.step ≡ step
      → after.given g.graft ≡ gift_to setup (placement setup before) router g.peering
  pub well : AreGivenWell setup (placement setup before) router
