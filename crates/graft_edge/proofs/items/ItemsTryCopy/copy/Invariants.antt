use Rattle.std.proofs.Common.{◌≡◌, take}
use Rattle.graft_edge.proofs.items.ItemsTryCopy.copy.Given as goal

-- the values so far are copied
abbrev pub invariant-loop-value : goal.invariant-loop-value
invariant-loop-value g l = l.copy ≡ take l.value-index l.self
