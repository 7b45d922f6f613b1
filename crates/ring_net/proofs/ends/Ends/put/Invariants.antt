use Rattle.std.proofs.Common.{◌≡◌, ◌+◌, ◌-◌, ℕ, get_or, length}
use Rattle.std.specs.Prelude.{None}
use Rattle.ring_net.proofs.ends.Ends.put.Given as goal

abbrev pub invariant-loop-self : goal.invariant-loop-self
invariant-loop-self g l = (b : ℕ) → get_or l.self.slots.items b None ≡ get_or l.initial.self.slots.items b None

abbrev pub decreases-loop-self : goal.decreases-loop-self
decreases-loop-self g l = l.peer + 1 - length l.self.slots.items
