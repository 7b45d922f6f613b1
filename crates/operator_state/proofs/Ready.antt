-- What a group begins with: its gifts and tasks by the steps of the laboratory, and what is known of slots and seats then.
use Rattle.std.proofs.Common.{◌≡◌, ◌≢◌, ℕ, ◌+◌, ◌<◌, ◌≤◌, true, List, [], ◌∷◌, length, Option, Some}
use Rattle.std.specs.Prelude.{slice_get, flat_map}
use Rattle.std.specs.List.{range_with_len}
use Rattle.graft_model.specs.Setups.{Setup, ScriptStep, SayStep, MoveStep, EvacuateStep, SettleStep}
use Rattle.graft_model.specs.Setups.{ScriptGraft, routers_in, group_of, grafts_in, grafts_before}
use Rattle.graft_model.specs.Evacuations.{rooms_of}
use Rattle.operator_state.specs.declared.evacuate.Gift.{Gift}
use Rattle.operator_state.specs.declared.grafts.Seat.{Seat}
use Rattle.operator_state.specs.declared.grafts.Slot.{Slot}
use Rattle.operator_state.specs.declared.groups.Task.{Task}
use Rattle.operator_state.specs.Evacuate.{seat_loads, gifts_to}
use Rattle.operator_state.specs.Tasks.{task_of, given_tasks}
use Rattle.operator_state.specs.Keeps.{StepsAreSound, IsSlotOf, IsSlotOver, is_first, InTurn, SeatsStand}

module _ (setup : Setup) (seats : List Seat) where
  -- what a step gives, whose first graft has this number
  abbrev pub gifts_of : ℕ → Option ScriptStep → List Gift
  gifts_of number (Some (EvacuateStep router)) = gifts_to number (record { 0 = router }) seats (seat_loads seats (routers_in setup)) (rooms_of setup)
  gifts_of number _ = []

  abbrev pub gifts_at : ℕ → List Gift
  gifts_at n = gifts_of (grafts_before setup n + 1) (slice_get setup.steps n)

  -- the tasks of a step
  abbrev pub tasks_of : ℕ → ℕ → Option ScriptStep → List Task
  tasks_of n number (Some (SayStep p bytes)) = task_of n 0 ∷ []
  tasks_of n number (Some (MoveStep p target)) = task_of n number ∷ []
  tasks_of n number (Some (EvacuateStep router)) = given_tasks n (gifts_of number (Some (EvacuateStep router)))
  tasks_of n number _ = []

  abbrev pub tasks_at : ℕ → List Task
  tasks_at n = tasks_of n (grafts_before setup n + 1) (slice_get setup.steps n)

  -- those of so many steps, from one on
  abbrev pub group_gifts : ℕ → ℕ → List Gift
  group_gifts from len = flat_map gifts_at (range_with_len from len)

  abbrev pub group_tasks : ℕ → ℕ → List Task
  group_tasks from len = flat_map tasks_at (range_with_len from len)

-- A slot as the group begins: what is of an earlier group is over, and all else is as it was at first.
pub record IsReadySlot (setup : Setup) (group : ℕ) (g : ScriptGraft) (slot : Slot) : Type 0 where
  pub fits : IsSlotOf setup g slot
  pub past : group_of setup g.step < group → IsSlotOver slot
  pub later : group ≤ group_of setup g.step → is_first (slice_get setup.steps g.step) slot ≡ true

-- A group of so many steps begins at a step.
pub record IsReady (setup : Setup) (group from len : ℕ) (slots : List Slot) (seats : List Seat) : Type 0 where
  pub sound : StepsAreSound setup
  pub begins : group_of setup from ≡ group
  pub before : (n : ℕ) → n < from → group_of setup n < group
  pub others : (n : ℕ) → from ≤ n → n < from + len → slice_get setup.steps n ≢ Some SettleStep
  pub settle : slice_get setup.steps (from + len) ≡ Some SettleStep
  pub all : length slots ≡ length (grafts_in setup)
  pub each : (i : ℕ) (g : ScriptGraft) (slot : Slot) → slice_get (grafts_in setup) i ≡ Some g → slice_get slots i ≡ Some slot → IsReadySlot setup group g slot
  pub in_turn : InTurn slots
  pub seated : SeatsStand setup slots seats
