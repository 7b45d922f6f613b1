use Rattle.std.proofs.Common.{◌≡◌, drop}
use Rattle.prefix_set.specs.Slots.{first_due_slot}
use Rattle.prefix_set.proofs.run.first_of.Given as goal

-- nothing is in the slots so far
abbrev pub invariant-loop-prefix : goal.invariant-loop-prefix
invariant-loop-prefix l = first_due_slot l.slots ≡ first_due_slot (drop l.prefix-index l.slots)
