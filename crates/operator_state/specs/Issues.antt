-- What issuing a task changes.
use Rattle.std.specs.Prelude.{ℕ, ◌≡◌, ◌≢◌, List, true, Some, slice_get, slice_set}
use Rattle.graft_edge.specs.declared.ids.RouterId.{RouterId}
use Rattle.graft_steps.specs.declared.log.GraftEntry.{GraftEntry}
use Rattle.graft_steps.specs.declared.log.GraftStage.TheVariants.{Issued}
use Rattle.graft_model.specs.Setups.{SayStep}
use Rattle.operator_state.specs.declared.grafts.Seat.{Seat}
use Rattle.operator_state.specs.declared.grafts.Slot.TheVariants.{Made}
use Rattle.operator_state.specs.declared.groups.Task.{Task}
use Rattle.operator_state.specs.Slots.{slot_at}
use Rattle.operator_state.specs.States.{State}

-- The graft of a task is held up: another graft of its peering is outstanding.
pub record IsGraftHeldUp (s : State) (task : Task) : Type 0 where
  pub entry : GraftEntry
  pub is : slot_at s.slots task.graft ≡ Some (Made entry)
  pub seat : Seat
  pub seated : slice_get s.seats entry.peering.0 ≡ Some seat
  pub moving : seat.moving ≡ true

-- the task has no remote of this peering say anything
abbrev pub LetsSay : State → ℕ → Task → Type 0
LetsSay s p task = (bytes : List ℕ) → slice_get s.setup.steps task.step ≡ Some (SayStep p bytes) → task.graft ≢ 0

-- its graft, if it has one, isn't of this peering
abbrev pub LetsGraft : State → ℕ → Task → Type 0
LetsGraft s p task = (entry : GraftEntry) → slot_at s.slots task.graft ≡ Some (Made entry) → entry.peering.0 ≢ p

-- the state with these pending tasks
abbrev pub waiting_are : State → List Task → State
waiting_are s waiting = record s { waiting = waiting }

-- the entry of a graft that was ordered at this router
abbrev pub issued_entry : GraftEntry → RouterId → GraftEntry
issued_entry entry router = record entry { source = Some router; stage = Issued }

abbrev pub moving_seat : Seat → Seat
moving_seat seat = record seat { moving = true }

-- The state after the graft at an index is ordered; its peering has this seat.
abbrev pub graft_issued : State → ℕ → GraftEntry → Seat → State
graft_issued s index entry seat =
    record s { slots = slice_set s.slots index (Made (issued_entry entry seat.place)); seats = slice_set s.seats entry.peering.0 (moving_seat seat) }
