use Rattle.std.proofs.Common.{length, ◌-◌}
use Rattle.prefix_set.specs.Slots.{AreSlots}
use Rattle.prefix_set.proofs.run.passed.Given as goal

abbrev pub decreases-loop-at : goal.decreases-loop-at
decreases-loop-at l = length l.slots - l.at

abbrev pub invariant-loop-at : goal.invariant-loop-at
invariant-loop-at l = AreSlots l.slots l.at
