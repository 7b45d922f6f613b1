-- The invariant of the operator's progress.
use Rattle.std.specs.Prelude.{ℕ, ◌≡◌, ◌≢◌, ◌≤◌, ◌<◌, ◌+◌, ◌↔◌, List, [], ◌∷◌, length, Bool, true, false, Option, Some, None, slice_get}
use Rattle.std.specs.List.{AllByRecursion, AllByRecursion-prop}
use Rattle.std.specs.Option.{option_map}
use mathlib.Core.HLevel.{×_prop, Unit-prop}
use native.Mathlib.Bridge.{le_prop}
use Rattle.graft_edge.specs.declared.ids.PeeringId.{PeeringId}
use Rattle.graft_edge.specs.declared.ids.RouterId.{RouterId}
use Rattle.graft_steps.specs.declared.log.GraftEntry.{GraftEntry}
use Rattle.graft_model.specs.Setups.{Setup, ScriptStep, SayStep, MoveStep, EvacuateStep, SettleStep}
use Rattle.graft_model.specs.Setups.{ScriptGraft, routers_in, peerings_in, group_of, grafts_in, graft_at}
use Rattle.graft_model.specs.Parts.{OperatorPart, To}
use Rattle.graft_model.specs.Placements.{target_by, placement}
use Rattle.operator_state.specs.declared.grafts.Seat.{Seat}
use Rattle.operator_state.specs.declared.grafts.Slot.{Slot}
use Rattle.operator_state.specs.declared.grafts.Slot.TheVariants.{Unmade, Stays, Made}
use Rattle.operator_state.specs.declared.groups.Task.{Task}
use Rattle.operator_state.specs.Grafts.{is_waiting, is_open, outcome_at}
use Rattle.operator_state.specs.Slots.{source_in, outcome_in, given_in}
use Rattle.operator_state.specs.Tasks.{has_task}
use Rattle.operator_state.specs.States.{State}

-- ---- tasks

-- A task comes before another one: its step does, or they are of the same step and its graft has the lower number.
pub record Precedes (one other : Task) : Type 0 where
  pub step : one.step ≤ other.step
  pub graft : one.step ≡ other.step → one.graft < other.graft

-- the tasks are in order: each comes before all after it
abbrev pub Rises : List Task → Type 0
Rises [] = Unit {0}
Rises (task ∷ tasks) = AllByRecursion (Precedes task) tasks × Rises tasks

Precedes-prop : (one other : Task) → IsProp (Precedes one other)
Precedes-prop one other x y = λ i. record { step = le_prop x.step y.step i; graft = λ e. le_prop (x.graft e) (y.graft e) i }

pub Rises-prop : (tasks : List Task) → IsProp (Rises tasks)
Rises-prop [] = Unit-prop
Rises-prop (task ∷ tasks) = ×_prop (AllByRecursion-prop (Precedes task) (Precedes-prop task) tasks) (Rises-prop tasks)

-- the graft of a task is one of its step
abbrev pub IsGraftTask : Setup → Task → Type 0
IsGraftTask setup task = option_map (λ g. g.step) (graft_at setup task.graft) ≡ Some task.step

-- a task of the current group, which ends before the step `next`; what the task orders agrees with its step
pub record IsWaitingTask (setup : Setup) (group next : ℕ) (task : Task) : Type 0 where
  pub group_is : group_of setup task.step ≡ group
  pub before : task.step < next
  pub says : (p : ℕ) (bytes : List ℕ) → slice_get setup.steps task.step ≡ Some (SayStep p bytes) → task.graft ≡ 0
  pub moves : (p target : ℕ) → slice_get setup.steps task.step ≡ Some (MoveStep p target) → IsGraftTask setup task
  pub evacuates : (router : ℕ) → slice_get setup.steps task.step ≡ Some (EvacuateStep router) → IsGraftTask setup task
  pub issuable : slice_get setup.steps task.step ≢ Some SettleStep

-- the peerings and routers that steps name exist
pub record StepsAreSound (setup : Setup) : Type 0 where
  pub says : (n p : ℕ) (bytes : List ℕ) → slice_get setup.steps n ≡ Some (SayStep p bytes) → p < peerings_in setup
  pub moves : (n p target : ℕ) → slice_get setup.steps n ≡ Some (MoveStep p target) → (p < peerings_in setup) × (target < routers_in setup)
  pub evacuates : (n router : ℕ) → slice_get setup.steps n ≡ Some (EvacuateStep router) → router < routers_in setup

-- ---- slots

-- the router that a step empties
abbrev pub emptied_by : Option ScriptStep → Option ℕ
emptied_by (Some (EvacuateStep router)) = Some router
emptied_by _ = None

-- An entry is that of an existing graft: its step has the entry's target, or may give it.
pub record IsMade (setup : Setup) (g : ScriptGraft) (entry : GraftEntry) : Type 0 where
  pub graft : entry.graft ≡ g.graft
  pub peering : entry.peering.0 ≡ g.peering
  pub target : target_by (slice_get setup.steps g.step) (To entry.target.0) ≡ Some entry.target.0
  pub there : entry.target.0 < routers_in setup
  pub source : (entry.source ≡ None) ↔ (is_waiting entry.stage ≡ true)

-- A graft's session stays at the router that its step empties.
pub record IsStaying (setup : Setup) (g : ScriptGraft) (k : ℕ) (peering : PeeringId) (router : RouterId) : Type 0 where
  pub graft : k ≡ g.graft
  pub peering_is : peering.0 ≡ g.peering
  pub emptied : emptied_by (slice_get setup.steps g.step) ≡ Some router.0

-- The slot is one that this graft may have.
pub record IsSlotOf (setup : Setup) (g : ScriptGraft) (slot : Slot) : Type 0 where
  pub unmade : slot ≡ Unmade → emptied_by (slice_get setup.steps g.step) ≢ None
  pub stays : (k : ℕ) (peering : PeeringId) (router : RouterId) → slot ≡ Stays k peering router → IsStaying setup g k peering router
  pub made : (entry : GraftEntry) → slot ≡ Made entry → IsMade setup g entry

-- whether a graft exists and wasn't ordered
abbrev pub slot_waits : Slot → Bool
slot_waits Unmade = false
slot_waits (Stays k p router) = false
slot_waits (Made entry) = is_waiting entry.stage

abbrev pub is_unmade : Slot → Bool
is_unmade Unmade = true
is_unmade (Stays k p router) = false
is_unmade (Made entry) = false

-- whether a slot is as it was before the group of its step began
abbrev pub is_first : Option ScriptStep → Slot → Bool
is_first (Some (MoveStep p target)) slot = slot_waits slot
is_first (Some (EvacuateStep router)) slot = is_unmade slot
is_first _ slot = false

-- a graft has ended, if it exists
abbrev pub IsSlotOver : Slot → Type 0
IsSlotOver slot = (entry : GraftEntry) → slot ≡ Made entry → outcome_at entry.stage ≢ None

-- A graft of an earlier group has ended; one of the current group waits exactly where it has a pending task; and the slot of a later one is as it was
-- at first.
pub record IsSlot (setup : Setup) (group : ℕ) (tasks : List Task) (g : ScriptGraft) (slot : Slot) : Type 0 where
  pub fits : IsSlotOf setup g slot
  pub past : group_of setup g.step < group → IsSlotOver slot
  pub now : group_of setup g.step ≡ group → slot_waits slot ≡ has_task tasks g.step g.graft
  pub later : group < group_of setup g.step → is_first (slice_get setup.steps g.step) slot ≡ true

-- When a graft was ordered, the earlier grafts of its peering had ended.
abbrev pub InTurn : List Slot → Type 0
InTurn slots = (i j : ℕ) (one other : GraftEntry) → i < j → slice_get slots i ≡ Some (Made one) → slice_get slots j ≡ Some (Made other)
    → one.peering.0 ≡ other.peering.0
    → is_waiting other.stage ≡ false → outcome_at one.stage ≢ None

-- There is a slot for each graft of the script.
pub record SlotsStand (setup : Setup) (group : ℕ) (tasks : List Task) (slots : List Slot) : Type 0 where
  pub all : length slots ≡ length (grafts_in setup)
  pub each : (i : ℕ) (g : ScriptGraft) (slot : Slot) → slice_get (grafts_in setup) i ≡ Some g → slice_get slots i ≡ Some slot → IsSlot setup group tasks g slot
  pub in_turn : InTurn slots

-- ---- seats

-- an operator's part with these slots
abbrev pub with_slots : Setup → List Slot → OperatorPart
with_slots setup slots = record { group = 0; issued = λ n. false; given = given_in setup slots; source = source_in slots; outcome = outcome_in slots }

-- no graft of the peering is outstanding
abbrev pub NoneIsOpen : List Slot → ℕ → Type 0
NoneIsOpen slots p = (i : ℕ) (entry : GraftEntry) → slice_get slots i ≡ Some (Made entry) → entry.peering.0 ≡ p → is_open entry.stage ≡ false

-- the place by the log, and whether a graft of the peering is outstanding
pub record IsSeat (setup : Setup) (slots : List Slot) (p : ℕ) (seat : Seat) : Type 0 where
  pub place : seat.place.0 ≡ placement setup (with_slots setup slots) p
  pub there : seat.place.0 < routers_in setup
  pub still : (seat.moving ≡ false) ↔ NoneIsOpen slots p

pub record SeatsStand (setup : Setup) (slots : List Slot) (seats : List Seat) : Type 0 where
  pub all : length seats ≡ peerings_in setup
  pub each : (p : ℕ) (seat : Seat) → slice_get seats p ≡ Some seat → IsSeat setup slots p seat

-- ---- the whole

-- where the current group ends
pub record EndsAt (setup : Setup) (group next : ℕ) : Type 0 where
  pub within : next ≤ length setup.steps
  pub begins : group_of setup next ≡ group + 1
  pub before : (n : ℕ) → n < next → group_of setup n ≤ group

pub record OperatorInvariant (s : State) : Type 0 where
  pub sound : StepsAreSound s.setup
  pub ends : EndsAt s.setup s.group s.next
  pub waiting : AllByRecursion (IsWaitingTask s.setup s.group s.next) s.waiting
  pub rising : Rises s.waiting
  pub slots : SlotsStand s.setup s.group s.waiting s.slots
  pub seats : SeatsStand s.setup s.slots s.seats
