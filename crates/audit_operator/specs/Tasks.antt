-- The tasks of the current group that an order may name.
use Rattle.std.specs.Prelude.{ℕ, ◌≡◌, ◌<◌, Option, Some, None, slice_get}
use Rattle.std.specs.Option.{option_map}
use Rattle.graft_edge.specs.declared.ids.PeeringId.{PeeringId}
use Rattle.graft_steps.specs.declared.item.Item.TheVariants as items
use Rattle.actor_configs.specs.declared.script.ScriptStep.{ScriptStep}
use Rattle.actor_configs.specs.declared.script.ScriptStep.TheVariants.{Say, Evacuate}
use Rattle.operator_state.specs.Slots.{move_of, slot_at}
use Rattle.operator_state.specs.declared.groups.Task.{Task}
use Rattle.audit_ruling.specs.Rulings.{Parcel}
use Rattle.audit_operator.specs.declared.operator.AuditedOperator.{AuditedOperator}

-- the number by which an order names a task of this step: the graft's if an evacuate step makes it, and 0 otherwise
abbrev pub number_for : Option ScriptStep → Task → ℕ
number_for (Some (Evacuate router)) task = task.graft
number_for step task = 0

-- the task at this index is of this step, and named by this number
pub record IsNamed (o : AuditedOperator) (step number index : ℕ) (task : Task) : Type 0 where
  pub there : slice_get o.tasks.items index ≡ Some task
  pub step_is : task.step ≡ step
  pub named : number_for (slice_get o.script.steps step) task ≡ number

-- the peering whose remote a task has say something
abbrev pub said_by_step : Option ScriptStep → Option PeeringId
said_by_step (Some (Say peering)) = Some peering
said_by_step step = None

abbrev pub says_in : AuditedOperator → Task → Option PeeringId
says_in o task = said_by_step (slice_get o.script.steps task.step)

-- the peering whose session a task moves
abbrev pub moves_in : AuditedOperator → Task → Option PeeringId
moves_in o task = option_map (λ m. m.peering) (move_of (slot_at o.slots.items task.graft))

-- a task before this index is also one for the peering
pub record IsBehind (for : Task → Option PeeringId) (o : AuditedOperator) (index : ℕ) (peering : PeeringId) : Type 0 where
  pub earlier : ℕ
  pub before : earlier < index
  pub task : Task
  pub there : slice_get o.tasks.items earlier ≡ Some task
  pub same : for task ≡ Some peering

-- the graft of a report
abbrev pub reported : Option Parcel → Option ℕ
reported (Some (items.Report graft outcome)) = Some graft
reported next = None
