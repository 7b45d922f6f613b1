use Rattle.std.proofs.Common.{refl}
use Rattle.tcp_end.proofs.Counted.{raised_more}
use Rattle.tcp_end.proofs.ahead.raise.Goals as goal

pub loop-piece-preserved : goal.loop-piece-preserved
loop-piece-preserved c = raised_more c.args.base c.deref_mut-piece-items.result.now c.loop-piece.piece-items
    c.loop-piece.piece-index c.piece-item.result _ c.loop-piece-test.true c.loop-piece.invariant c.piece-item.is refl
