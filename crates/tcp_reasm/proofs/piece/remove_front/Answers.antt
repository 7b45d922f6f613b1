use Rattle.std.proofs.Common.{◌∙◌, arith}
use Rattle.tcp_reasm.proofs.Ready.{front_removed}
use Rattle.tcp_reasm.proofs.piece.remove_front.Goals as goal

pub returns : goal.returns
returns c = c.truncate.ensures.items
    ∙ front_removed c.args.pieces.now.items c.loop-index.pieces.items c.args.count _ (omega arith) (omega arith) c.loop-index.invariant.len
    (λ k d below. c.loop-index.invariant.moved k d (omega arith))
