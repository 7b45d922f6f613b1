-- How long each group of an input may run.
use Rattle.std.specs.Prelude.{ℕ, ◌+◌, ◌-◌, ◌*◌, ◌≤◌, Bool, false, List, [], ◌∷◌, ◌++◌, length, slice_get, unwrap_or, if◌then◌else◌}
use Rattle.std.specs.List.{flat_map}
use Rattle.std.specs.Option.{option_map_or}
use Rattle.lab_tables.specs.declared.input.LabInput.{LabInput}
use Rattle.lab_tables.specs.declared.input.Step.{Step}
use Rattle.lab_tables.specs.declared.input.Step.TheVariants.{Settle}
use Rattle.lab_tables.specs.Scripts.{is_settle_step}
use Rattle.node_configs.specs.declared.budget.Budget.{Budget}

-- the most rounds of a settle that names no number: 2,048, and 8 for each planned fault
abbrev pub usual_rounds : LabInput → ℕ
usual_rounds input = 2048 + 8 * length input.faults

abbrev pub budget_of : ℕ → Step → List Budget
budget_of usual (Settle rounds least) = record { rounds = unwrap_or rounds usual; least = least } ∷ []
budget_of usual step = []

-- whether the last step of a script ends a group
abbrev pub ends_itself : List Step → Bool
ends_itself steps = option_map_or is_settle_step (slice_get steps (length steps - 1)) false

-- if the last step isn't a settle, one is added
abbrev pub added_budget : ℕ → Bool → List Budget
added_budget usual ended = if ended then [] else record { rounds = usual; least = 0 } ∷ []

-- the budget of each settle, an added one included
abbrev pub budgets_in : LabInput → List Budget
budgets_in input = flat_map (budget_of (usual_rounds input)) input.steps ++ added_budget (usual_rounds input) (ends_itself input.steps)

-- A settle may make at least one round, and no fewer than its least number.
pub record IsSoundBudget (budget : Budget) : Type 0 where
  pub some : 1 ≤ budget.rounds
  pub enough : budget.least ≤ budget.rounds
