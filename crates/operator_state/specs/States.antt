-- The operator's progress, as its part of the world.
use Rattle.std.specs.Prelude.{ℕ, ◌&&◌, nat_lt, not, List, Bool, true, false, Option, Some, slice_get}
use Rattle.graft_model.specs.Setups.{Setup, ScriptStep, SayStep}
use Rattle.graft_model.specs.Parts.{OperatorPart}
use Rattle.operator_state.specs.declared.grafts.Seat.{Seat}
use Rattle.operator_state.specs.declared.grafts.Slot.{Slot}
use Rattle.operator_state.specs.declared.groups.Task.{Task}
use Rattle.operator_state.specs.Slots.{source_in, outcome_in, given_in}
use Rattle.operator_state.specs.Tasks.{has_task}

-- the laboratory; the current group, where the steps after it begin, and its tasks that weren't issued; the slots of grafts; and the seats
pub record State : Type 0 where
  pub setup : Setup
  pub group : ℕ
  pub next : ℕ
  pub waiting : List Task
  pub slots : List Slot
  pub seats : List Seat

-- whether a step has a remote say something
abbrev pub is_say : Option ScriptStep → Bool
is_say (Some (SayStep p bytes)) = true
is_say _ = false

-- the says of this group and of those before it were issued, except those that are pending
abbrev pub issued_in : State → ℕ → Bool
issued_in s n = is_say (slice_get s.setup.steps n) && nat_lt n s.next && not (has_task s.waiting n 0)

abbrev pub part_of_state : State → OperatorPart
part_of_state s = record { group = s.group; issued = issued_in s; given = given_in s.setup s.slots; source = source_in s.slots; outcome = outcome_in s.slots }
