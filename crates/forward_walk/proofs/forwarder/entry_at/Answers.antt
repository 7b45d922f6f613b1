use Rattle.std.proofs.Common.{arith}
use Rattle.forward_walk.proofs.Maps.{none_past}
use Rattle.forward_walk.proofs.forwarder.entry_at.Goals as goal

pub returns-in_err-table : goal.returns-in_err-table
returns-in_err-table c =
    let none = none_past c.args.tries.now c.args.at c.args.address (omega (arith, c.from.ensures, c.in_err-table.ensures.lookup)) in
    rw c.from_residual.ensures none
