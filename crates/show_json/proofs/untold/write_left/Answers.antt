use Rattle.report_json.proofs.Tokens.{gathered_further}
use Rattle.show_json.specs.Routes.{unless_told}
use Rattle.show_json.proofs.untold.write_left.Goals as goal

pub loop-entry-preserved : goal.loop-entry-preserved
loop-entry-preserved c = λ router side.
    gathered_further c.args.table.now c.loop-entry.entry-index c.entry-item.result c.loop-entry-test.true c.entry-item.is
    (unless_told c.args.input.now router (c.args.out.now.peering.0, c.args.peering.now) c.args.told.now)
    _ _ _ (c.loop-entry.invariant router side) (c.in_ok-write_unless_told.ensures router side)
