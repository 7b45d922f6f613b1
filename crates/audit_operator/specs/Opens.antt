-- Grafts that are ordered, and those that end.
use Rattle.std.specs.Prelude.{ℕ, ◌≡◌, ◌+◌, ◌<◌, length, Some, slice_get}
use Rattle.graft_edge.specs.declared.ids.RouterId.{RouterId}
use Rattle.graft_steps.specs.declared.log.GraftEntry.{GraftEntry}
use Rattle.graft_steps.specs.declared.refusal.Outcome.{Outcome}
use Rattle.operator_state.specs.Issues.{graft_issued}
use Rattle.operator_state.specs.Notes.{graft_noted}
use Rattle.operator_state.specs.declared.grafts.Seat.{Seat}
use Rattle.operator_state.specs.declared.grafts.Slot.TheVariants.{Made}
use Rattle.operator_state.specs.declared.groups.Task.{Task}
use Rattle.audit_operator.specs.Parts.{operator_state}
use Rattle.audit_operator.specs.declared.operator.AuditedOperator.{AuditedOperator}

-- its laboratory, its script and the numbers of its grafts are as they were
pub record IsSteady (old new : AuditedOperator) : Type 0 where
  pub known : new.known ≡ old.known
  pub script : new.script ≡ old.script
  pub numbers : new.numbers ≡ old.numbers

-- The graft of a task is ordered at the router of its peering's seat, and recorded in its slot.
pub record IssuesGraft (old : AuditedOperator) (task : Task) (new : AuditedOperator) (router : RouterId) : Type 0 where
  pub index : ℕ
  pub is_index : index + 1 ≡ task.graft
  pub entry : GraftEntry
  pub there : slice_get old.slots.items index ≡ Some (Made entry)
  pub seat : Seat
  pub seated : slice_get old.seats.items entry.peering.0 ≡ Some seat
  pub same : IsSteady old new
  pub tasks : new.tasks.items ≡ old.tasks.items
  pub changes : operator_state new ≡ graft_issued (operator_state old) index entry seat
  pub router_is : router ≡ seat.place

-- each graft's peering has a seat
abbrev pub HaveSeats : AuditedOperator → Type 0
HaveSeats o = (index : ℕ) (entry : GraftEntry) → slice_get o.slots.items index ≡ Some (Made entry) → entry.peering.0 < length o.seats.items

-- the slot at this index has a graft
abbrev pub IsMadeAt : AuditedOperator → ℕ → Type 0
IsMadeAt o index = (entry : GraftEntry) × (slice_get o.slots.items index ≡ Some (Made entry))

-- The graft at this index ends.
pub record Ends (old : AuditedOperator) (index : ℕ) (outcome : Outcome) (new : AuditedOperator) : Type 0 where
  pub entry : GraftEntry
  pub there : slice_get old.slots.items index ≡ Some (Made entry)
  pub seat : Seat
  pub seated : slice_get old.seats.items entry.peering.0 ≡ Some seat
  pub same : IsSteady old new
  pub tasks : new.tasks.items ≡ old.tasks.items
  pub changes : operator_state new ≡ graft_noted (operator_state old) index entry outcome seat
