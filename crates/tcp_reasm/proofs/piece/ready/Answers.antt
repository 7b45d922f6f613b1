use Rattle.std.proofs.Common.{arith}
use Rattle.tcp_reasm.proofs.Ready.{bytes_fit}
use Rattle.tcp_reasm.proofs.piece.ready.Goals as goal

pub returns-else-pieces-count-clause-fits : goal.returns-else-pieces-count-clause-fits
returns-else-pieces-count-clause-fits c = omega (arith, bytes_fit 0 c.loop-count.count c.args.pieces.now (omega arith) c.requires, c.loop-count.invariant.bytes)

pub returns-after-loop-count-clause-fits : goal.returns-after-loop-count-clause-fits
returns-after-loop-count-clause-fits c = omega (arith, bytes_fit 0 c.loop-count.count c.args.pieces.now (omega arith) c.requires, c.loop-count.invariant.bytes)
