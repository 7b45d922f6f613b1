use Rattle.ring_net.proofs.ClockLaws.{all_clocked}
use Rattle.ring_net.proofs.clocks.set_clocks.Goals as goal

pub returns : goal.returns
returns g c = all_clocked c.args.cells.now c.loop-cell.cells c.args.clock c.loop-cell.cell-index
    c.loop-cell.auto.cells c.loop-cell-test.false c.loop-cell.invariant.done
