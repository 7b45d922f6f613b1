use Rattle.std.proofs.Common.{◌≡◌, length, map, take}
use Rattle.ring_net.specs.declared.cell.Cell.{Cell}
use Rattle.ring_net.specs.Posts.{entries_in}
use Rattle.ring_net.proofs.looks.lengths.Given as goal

-- the lengths so far
abbrev pub invariant-loop-cell : goal.invariant-loop-cell
invariant-loop-cell g l = l.mark.items ≡ map (λ (c : Cell _ _). length (entries_in c.post)) (take l.cell-index l.cells)
