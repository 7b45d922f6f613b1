use Rattle.std.proofs.Common.{◌≡◌, ◌++◌, ◌-◌}
use Rattle.operator_state.specs.Slots.{unmade_slots}
use Rattle.operator_state.proofs.grafts.add_unmade.Given as goal

abbrev pub invariant-loop : goal.invariant-loop
invariant-loop l = l.slots.items ++ unmade_slots (l.count - l.counter) ≡ l.fn.slots.items ++ unmade_slots l.count
