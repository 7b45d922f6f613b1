use Rattle.std.proofs.Common.{◌≡◌, take}
use Rattle.std.specs.List.{flat_map}
use Rattle.node_configs.specs.Budgets.{budget_of}
use Rattle.node_configs.proofs.budget.step_budgets.Given as goal

abbrev pub invariant-loop-step : goal.invariant-loop-step
invariant-loop-step l = l.budgets ≡ flat_map (budget_of l.usual) (take l.step-index l.steps)
