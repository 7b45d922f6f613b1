use Rattle.std.proofs.Common.{ℕ, ◌<◌, ◌≤◌, Some}
use Rattle.std.specs.Prelude.{◌≢◌, slice_get}
use Rattle.actor_configs.specs.declared.script.ScriptStep.TheVariants.{Settle}
use Rattle.operator_state.proofs.groups.group_end.Given as goal

abbrev pub invariant-loop-index : goal.invariant-loop-index
invariant-loop-index l = (n : ℕ) → l.from ≤ n → n < l.index → slice_get l.steps n ≢ Some Settle
