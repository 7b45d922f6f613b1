-- The steps of a group, and the numbers of grafts, over the steps of a script.
use Rattle.std.specs.Prelude.{ℕ, ◌≡◌, ◌≢◌, ◌≤◌, ◌<◌, ◌+◌, ◌^◌, List, [], length, take, sum_by, flat_map, Option, Some, None, slice_get, slice_index_or}
use Rattle.std.specs.List.{range_with_len}
use Rattle.operator_state.specs.declared.evacuate.Gift.{Gift}
use Rattle.operator_state.specs.declared.grafts.Seat.{Seat}
use Rattle.operator_state.specs.declared.groups.Group.{Group}
use Rattle.operator_state.specs.declared.groups.Task.{Task}
use Rattle.actor_configs.specs.declared.script.Script.{Script}
use Rattle.actor_configs.specs.declared.script.ScriptStep.{ScriptStep}
use Rattle.actor_configs.specs.declared.script.ScriptStep.TheVariants.{Say, Graft, Evacuate, Settle}
use Rattle.operator_state.specs.Evacuate.{seat_loads, gifts_by}
use Rattle.operator_state.specs.Tasks.{tasks_by}

-- ---- numbers

-- the number of grafts of a step, by the number of peerings
abbrev pub grafts_by : ℕ → ScriptStep → ℕ
grafts_by peerings (Say p) = 0
grafts_by peerings (Graft p target) = 1
grafts_by peerings (Evacuate router) = peerings
grafts_by peerings Settle = 0

-- the number at each index is one above the number of grafts before it
pub record AreNumbers (peerings : ℕ) (steps : List ScriptStep) (numbers : List ℕ) : Type 0 where
  pub all : length numbers ≡ length steps
  pub each : (n : ℕ) → n < length steps → slice_index_or numbers n 0 ≡ sum_by (grafts_by peerings) (take n steps) + 1

-- each index has a number, and 256 numbers after it still fit in 32 bits
pub record NumbersFit (steps : List ScriptStep) (numbers : List ℕ) : Type 0 where
  pub all : length numbers ≡ length steps
  pub each : (n : ℕ) → n < length steps → slice_index_or numbers n 0 + 256 < 2 ^ 32

-- ---- a group

-- The first step from this index on that ends a group.
pub record EndsAfter (steps : List ScriptStep) (from end : ℕ) : Type 0 where
  pub behind : from ≤ end
  pub others : (n : ℕ) → from ≤ n → n < end → slice_get steps n ≢ Some Settle
  pub settle : slice_get steps end ≡ Some Settle

module _ (script : Script) (numbers : List ℕ) (seats : List Seat) where
  -- what the step at an index gives
  abbrev pub gifts_of_step : ℕ → Option ScriptStep → List Gift
  gifts_of_step n None = []
  gifts_of_step n (Some step) = gifts_by seats (seat_loads seats (length script.rooms)) script.rooms (slice_index_or numbers n 0) step

  abbrev pub tasks_of_step : ℕ → Option ScriptStep → List Task
  tasks_of_step n None = []
  tasks_of_step n (Some step) = tasks_by n (slice_index_or numbers n 0) step (gifts_of_step n (Some step))

  abbrev pub gifts_at : ℕ → List Gift
  gifts_at n = gifts_of_step n (slice_get script.steps n)

  abbrev pub tasks_at : ℕ → List Task
  tasks_at n = tasks_of_step n (slice_get script.steps n)

  -- The group that begins at this index: the tasks of its steps in their order, and what they give. The next group begins after the step that ends
  -- it.
  pub record IsGroupFrom (from : ℕ) (group : Group) : Type 0 where
    pub len : ℕ
    pub ends : EndsAfter script.steps from (from + len)
    pub tasks : group.tasks.items ≡ flat_map tasks_at (range_with_len from len)
    pub gifts : group.gifts ≡ flat_map gifts_at (range_with_len from len)
    pub next : group.next ≡ from + len + 1
