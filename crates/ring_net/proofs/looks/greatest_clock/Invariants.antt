use Rattle.ring_net.specs.declared.cell.Cell.{Cell}
use Rattle.ring_net.specs.Posts.{clock_of}
use Rattle.ring_net.proofs.News.{Greatest}
use Rattle.ring_net.proofs.looks.greatest_clock.Given as goal

-- the greatest clock so far
abbrev pub invariant-loop-cell : goal.invariant-loop-cell
invariant-loop-cell g l = Greatest (λ (c : Cell _ _). clock_of c.post) l.cells l.cell-index l.greatest
