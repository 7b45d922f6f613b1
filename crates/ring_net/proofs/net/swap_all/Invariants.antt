use Rattle.std.proofs.Common.{◌≡◌, length, take}
use Rattle.ring_net.specs.Deals.{swapped}
use Rattle.ring_net.proofs.net.swap_all.Given as goal

-- the cells at the pairs so far changed places
abbrev pub invariant-loop-a : goal.invariant-loop-a
invariant-loop-a g l = (length l.cells ≡ length l.initial.cells) × (l.cells ≡ swapped l.initial.cells (take l.a-index l.swaps))
