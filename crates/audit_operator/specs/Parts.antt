-- The operator as the model has it, and the invariant of its fields.
use Rattle.std.specs.Prelude.{◌≡◌, ◌≤◌, ◌-◌, length, false, Some, slice_get}
use Rattle.std.specs.List.{AllByRecursion}
use Rattle.graft_model.specs.Parts.{OperatorPart}
use Rattle.actor_configs.specs.Scripts.{IsScriptOf}
use Rattle.actor_configs.specs.declared.script.ScriptStep.TheVariants.{Settle}
use Rattle.operator_state.specs.Groups.{AreNumbers}
use Rattle.operator_state.specs.Keeps.{OperatorInvariant}
use Rattle.operator_state.specs.States.{State, part_of_state}
use Rattle.audit_operator.specs.declared.operator.AuditedOperator.{AuditedOperator}

abbrev pub operator_state : AuditedOperator → State
operator_state o =
    record { setup = o.known.setup; group = o.group; next = o.next; waiting = o.tasks.items; slots = o.slots.items; seats = o.seats.items }

abbrev pub operator_part : AuditedOperator → OperatorPart
operator_part o = part_of_state (operator_state o)

-- The script is that of the laboratory, with the numbers of its grafts; no task that is kept was ordered; and the state is sound.
pub record OperatorStands (o : AuditedOperator) : Type 0 where
  pub script : IsScriptOf o.known.setup o.script
  pub numbers : AreNumbers (length o.script.starts) o.script.steps o.numbers
  pub few : length o.script.rooms ≤ 256
  pub peerings : length o.script.starts ≤ 256
  pub short : length o.script.steps ≤ 4097
  pub ended : slice_get o.script.steps (length o.script.steps - 1) ≡ Some Settle
  pub unissued : AllByRecursion (λ task. task.issued ≡ false) o.tasks.items
  pub keeps : OperatorInvariant (operator_state o)
