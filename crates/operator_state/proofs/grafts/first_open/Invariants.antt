use Rattle.std.proofs.Common.{◌≡◌, drop}
use Rattle.operator_state.specs.Slots.{first_open as first_open_of}
use Rattle.operator_state.proofs.grafts.first_open.Given as goal

abbrev pub invariant-loop-slot : goal.invariant-loop-slot
invariant-loop-slot l = first_open_of (drop l.slot-index l.slots) ≡ first_open_of l.slots
