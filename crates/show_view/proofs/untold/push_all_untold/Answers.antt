use Rattle.std.proofs.Common.{string_bytes}
use Rattle.why_view.proofs.Further.{flat_mapped_more}
use Rattle.show_view.specs.Untold.{untold_line}
use Rattle.show_view.proofs.untold.push_all_untold.Goals as goal

-- the lines so far, and behind them that of one route more
pub loop-entry-preserved : goal.loop-entry-preserved
loop-entry-preserved c = λ router side.
    flat_mapped_more (untold_line c.args.input.now router (c.args.view.now.peering.0, c.args.peering.now) c.args.told.now) c.args.table.now
    c.loop-entry.entry-index c.entry-item.result (string_bytes c.args.text.now) (string_bytes c.loop-entry.text)
    (string_bytes c.push_unless_told.new.text) c.loop-entry-test.true c.entry-item.is (c.loop-entry.invariant router side)
    (c.in_ok-push_unless_told.ensures router side)
