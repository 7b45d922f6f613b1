use Rattle.tcp_reasm.proofs.Ready.{lowered_more}
use Rattle.tcp_reasm.proofs.piece.lower.Goals as goal

pub loop-piece-preserved : goal.loop-piece-preserved
loop-piece-preserved c = lowered_more c.args.by c.deref_mut-piece-items.result.now c.loop-piece.piece-items c.loop-piece.piece-index
    c.piece-item.result c.saturating_sub-piece.result c.loop-piece-test.true c.loop-piece.invariant c.piece-item.is c.saturating_sub-piece.ensures
