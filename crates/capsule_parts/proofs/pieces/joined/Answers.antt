use Rattle.std.proofs.Common.{sym, subst}
use Rattle.capsule_parts.specs.Sound.{LieAbove}
use Rattle.capsule_parts.proofs.Joined.{joined_all, joined_more, joined_none}
use Rattle.capsule_parts.proofs.pieces.joined.Goals as goal

pub loop-piece-init : goal.loop-piece-init
loop-piece-init c = joined_none c.args.pieces.now c.new-joined.result.items c.new-joined.ensures.items

pub loop-piece-preserved : goal.loop-piece-preserved
loop-piece-preserved c =
    joined_more c.args.pieces.now c.loop-piece.piece-index c.piece-item.result _ _ c.loop-piece-test.true c.piece-item.is c.loop-piece.invariant
    c.in_ok-add_piece.ensures.bytes c.in_ok-add_piece.ensures.apart

pub returns-clause-apart : goal.returns-clause-apart
returns-clause-apart c = λ below high lie.
    subst (LieAbove below high) (sym c.from_vec.ensures)
    ((joined_all c.args.pieces.now c.loop-piece.piece-index c.loop-piece.joined.items c.loop-piece-test.false c.loop-piece.invariant).1 below high lie)
