use Rattle.std.proofs.Common.{string_bytes}
use Rattle.show_view.specs.Links.{fault_line}
use Rattle.show_view.proofs.Pieces.{piece_more}
use Rattle.show_view.proofs.links.push_counted.Goals as goal

-- the lines so far, and behind them that of one fault more
pub loop-fault-preserved : goal.loop-fault-preserved
loop-fault-preserved c = λ journal are.
    piece_more (fault_line c.args.input.now journal) c.args.faults.now c.loop-fault.fault-index _ (string_bytes c.args.text.now)
    (string_bytes c.loop-fault.text) (string_bytes c.push_fault.new.text) c.loop-fault-test.true (c.loop-fault.invariant journal are)
    (c.in_ok-push_fault.ensures journal are)
