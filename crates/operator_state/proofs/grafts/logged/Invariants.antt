use Rattle.std.proofs.Common.{◌≡◌, take}
use Rattle.std.specs.List.{flat_map}
use Rattle.operator_state.specs.Slots.{entries_in_slot}
use Rattle.operator_state.proofs.grafts.logged.Given as goal

abbrev pub invariant-loop-slot : goal.invariant-loop-slot
invariant-loop-slot l = l.log ≡ flat_map entries_in_slot (take l.slot-index l.slots)
