use Rattle.std.proofs.Common.{ℕ, ◌+◌, drop, subst, sym}
use Rattle.capsule_parts.proofs.Joined.{AboveFrom, above_first, above_further, above_stops}
use Rattle.capsule_parts.proofs.pieces.lie_above.Goals as goal

pub loop-piece-init : goal.loop-piece-init
loop-piece-init c = above_first c.args.below c.args.high c.args.pieces.now

pub returns-then-not-is_above : goal.returns-then-not-is_above
returns-then-not-is_above c =
    above_stops c.args.below c.args.high c.args.pieces.now c.loop-piece.piece-index c.loop-piece.end c.piece-item.result
    c.loop-piece-test.true c.piece-item.is c.loop-piece.invariant c.if-not-is_above.ensures

pub loop-piece-preserved : goal.loop-piece-preserved
loop-piece-preserved c =
    subst (λ (n : ℕ). AboveFrom c.args.below c.args.high c.args.pieces.now n (drop (c.loop-piece.piece-index + 1) c.args.pieces.now)) (sym c.end-end.ensures)
    (above_further c.args.below c.args.high c.args.pieces.now c.loop-piece.piece-index c.loop-piece.end c.piece-item.result
    c.loop-piece-test.true c.piece-item.is c.loop-piece.invariant c.if-not-is_above.ensures)
