-- The tasks of a group.
use Rattle.std.specs.Prelude.{ℕ, ◌≡◌, ◌==◌, ◌&&◌, Bool, true, false, List, [], ◌∷◌, if◌then◌else◌, Option, Some, is_some}
use Rattle.std.specs.List.{list_any}
use Rattle.operator_state.specs.declared.evacuate.Gift.{Gift}
use Rattle.operator_state.specs.declared.groups.Task.{Task}
use Rattle.actor_configs.specs.declared.script.ScriptStep.{ScriptStep}
use Rattle.actor_configs.specs.declared.script.ScriptStep.TheVariants.{Say, Graft, Evacuate, Settle}

abbrev pub task_of : ℕ → ℕ → Task
task_of step graft = record { step = step; graft = graft; issued = false }

abbrev pub task_issued : Task → Task
task_issued task = record task { issued = true }

-- the tasks of a list that weren't issued
abbrev pub unissued : List Task → List Task
unissued [] = []
unissued (task ∷ tasks) = if task.issued then unissued tasks else task ∷ unissued tasks

-- whether a task is that of a step, and of the graft of this number, 0 if there is none
abbrev pub is_task : ℕ → ℕ → Task → Bool
is_task step graft task = (task.step == step) && (task.graft == graft)

abbrev pub has_task : List Task → ℕ → ℕ → Bool
has_task tasks step graft = list_any (is_task step graft) tasks

-- the graft number with which the order of a task is journaled
abbrev pub IsNumberOf : Option ScriptStep → Task → ℕ → Type 0
IsNumberOf (Some (Graft peering target)) task number = number ≡ 0
IsNumberOf (Some (Evacuate router)) task number = number ≡ task.graft
IsNumberOf _ task number = ⊥

-- ---- as a group begins

-- a task for each graft that an evacuate step makes
abbrev pub given_tasks : ℕ → List Gift → List Task
given_tasks step [] = []
given_tasks step (gift ∷ gifts) = if is_some gift.target then task_of step gift.graft ∷ given_tasks step gifts else given_tasks step gifts

-- the tasks of the step at an index; its first graft has this number, and the list is what it gives
abbrev pub tasks_by : ℕ → ℕ → ScriptStep → List Gift → List Task
tasks_by index number (Say p) gifts = task_of index 0 ∷ []
tasks_by index number (Graft p target) gifts = task_of index number ∷ []
tasks_by index number (Evacuate router) gifts = given_tasks index gifts
tasks_by index number Settle gifts = []
