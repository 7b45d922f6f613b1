use Rattle.std.proofs.Common.{◌≡◌, ◌++◌, drop}
use Rattle.prefix_set.specs.Slots.{those_in}
use Rattle.prefix_set.proofs.run.listed.Given as goal

-- those of the slots so far are listed
abbrev pub invariant-loop-prefix : goal.invariant-loop-prefix
invariant-loop-prefix l = l.prefixes ++ those_in (drop l.prefix-index l.slots) ≡ those_in l.slots
