use Rattle.operator_state.proofs.SlotLoops.{AreSlotsTo}
use Rattle.operator_state.proofs.grafts.first_slots.Given as goal

abbrev pub invariant-loop-step : goal.invariant-loop-step
invariant-loop-step l = AreSlotsTo l.peerings l.steps l.step-index l.slots.items
