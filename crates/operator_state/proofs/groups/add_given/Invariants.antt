use Rattle.std.proofs.Common.{◌≡◌, ◌++◌, drop}
use Rattle.operator_state.specs.Tasks.{given_tasks}
use Rattle.operator_state.proofs.groups.add_given.Given as goal

abbrev pub invariant-loop-gift : goal.invariant-loop-gift
invariant-loop-gift l = l.tasks.items ++ given_tasks l.step (drop l.gift-index l.gifts) ≡ l.fn.tasks.items ++ given_tasks l.step l.gifts
