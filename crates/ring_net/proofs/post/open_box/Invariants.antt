use Rattle.std.proofs.Common.{◌≡◌, ◌+◌, ◌-◌, ℕ, get_or, length}
use Rattle.std.specs.Prelude.{None}
use Rattle.ring_net.proofs.post.open_box.Given as goal

abbrev pub invariant-loop-boxes : goal.invariant-loop-boxes
invariant-loop-boxes g l = (b : ℕ) → get_or l.boxes.items b None ≡ get_or l.initial.boxes.items b None

abbrev pub decreases-loop-boxes : goal.decreases-loop-boxes
decreases-loop-boxes g l = l.to + 1 - length l.boxes.items
