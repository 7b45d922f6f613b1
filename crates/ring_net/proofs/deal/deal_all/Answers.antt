use Rattle.std.proofs.Common.{length, arith}
use Rattle.ring_net.proofs.deal.deal_all.Goals as goal

pub put-requires-clause-place : goal.put-requires-clause-place
put-requires-clause-place c = omega (arith, c.in-Some.ensures.place (length c.args.table.places.items) c.loop-load.invariant.1, c.loop-load.invariant.0)
