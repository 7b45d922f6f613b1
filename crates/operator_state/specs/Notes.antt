-- What the report of a graft changes.
use Rattle.std.specs.Prelude.{ℕ, ◌≡◌, ◌+◌, List, true, false, Option, Some, None, slice_get, slice_set}
use Rattle.graft_edge.specs.declared.ids.RouterId.{RouterId}
use Rattle.graft_steps.specs.declared.log.GraftEntry.{GraftEntry}
use Rattle.graft_steps.specs.declared.log.GraftStage.TheVariants.{Ended}
use Rattle.graft_steps.specs.declared.refusal.Outcome.{Outcome}
use Rattle.graft_steps.specs.declared.refusal.Outcome.TheVariants.{Accepted, Refused}
use Rattle.operator_state.specs.declared.grafts.Seat.{Seat}
use Rattle.operator_state.specs.declared.grafts.Slot.{Slot}
use Rattle.operator_state.specs.declared.grafts.Slot.TheVariants.{Made}
use Rattle.operator_state.specs.Grafts.{is_open}
use Rattle.operator_state.specs.States.{State}

-- the index of the outstanding graft of this number, if there is one
abbrev pub IsOpenIndex : List Slot → ℕ → Option ℕ → Type 0
IsOpenIndex slots graft None = (index : ℕ) (entry : GraftEntry) → slice_get slots index ≡ Some (Made entry) → index + 1 ≡ graft → is_open entry.stage ≡ false
IsOpenIndex slots graft (Some index) = (entry : GraftEntry) × (slice_get slots index ≡ Some (Made entry)) × (index + 1 ≡ graft) × (is_open entry.stage ≡ true)

abbrev pub ended_entry : GraftEntry → Outcome → GraftEntry
ended_entry entry outcome = record entry { stage = Ended outcome }

-- where a session belongs after a graft of it
abbrev pub place_after : Outcome → RouterId → RouterId → RouterId
place_after Accepted place target = target
place_after (Refused refusal) place target = place

abbrev pub still_seat : Outcome → RouterId → Seat → Seat
still_seat outcome target seat = record { place = place_after outcome seat.place target; moving = false }

-- The state after the graft at an index has ended.
abbrev pub graft_noted : State → ℕ → GraftEntry → Outcome → Seat → State
graft_noted s index entry outcome seat =
    record s {
      slots = slice_set s.slots index (Made (ended_entry entry outcome));
      seats = slice_set s.seats entry.peering.0 (still_seat outcome entry.target seat);
    }
