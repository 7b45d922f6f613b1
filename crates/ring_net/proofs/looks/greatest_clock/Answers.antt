use Rattle.std.proofs.Common.{arith, ap}
use Rattle.std.proofs.lemmas.List.{get_or_default}
use Rattle.ring_net.specs.declared.cell.Cell.{Cell}
use Rattle.ring_net.specs.Posts.{clock_of}
use Rattle.ring_net.proofs.News.{greatest_more}
use Rattle.ring_net.proofs.looks.greatest_clock.Goals as goal

pub loop-cell-init : goal.loop-cell-init
loop-cell-init g c = record {
  bound = λ k d h. absurd (omega arith);
  is = (0, c.requires, λ d. ap (λ (z : Cell _ _). clock_of z.post) (get_or_default c.args.cells.now 0 d c.index-cells-0.result c.requires));
}

pub loop-cell-preserved : goal.loop-cell-preserved
loop-cell-preserved g c = greatest_more (λ (z : Cell _ _). clock_of z.post) c.args.cells.now c.loop-cell.cell-index c.loop-cell.greatest
    c.max-greatest.result c.cell-item.result c.loop-cell-test.true c.cell-item.is c.max-greatest.ensures c.loop-cell.invariant
