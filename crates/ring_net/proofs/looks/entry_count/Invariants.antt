use Rattle.std.proofs.Common.{◌≡◌, ◌-◌, ◌^◌, length, min, take}
use Rattle.std.specs.Prelude.{sum_by}
use Rattle.ring_net.specs.declared.cell.Cell.{Cell}
use Rattle.ring_net.specs.Posts.{entries_in}
use Rattle.ring_net.proofs.looks.entry_count.Given as goal

-- the entries so far
abbrev pub invariant-loop-cell : goal.invariant-loop-cell
invariant-loop-cell g l = l.count ≡ min (sum_by (λ (c : Cell _ _). length (entries_in c.post)) (take l.cell-index l.cells)) (2 ^ 64 - 1)
