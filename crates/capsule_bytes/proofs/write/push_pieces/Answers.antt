use Rattle.std.proofs.Common.{take}
use Rattle.std.specs.Prelude.{None}
use Rattle.std.specs.List.{last_or}
use Rattle.capsule_bytes.specs.Capsules.{piece_fields}
use Rattle.capsule_bytes.proofs.Checked.{fits_below}
use Rattle.capsule_bytes.proofs.Written.{right_member, written_turn}
use Rattle.capsule_bytes.proofs.write.push_pieces.Goals as goal

pub push_piece-requires : goal.push_piece-requires
push_piece-requires c =
    let x = c.piece-item.result in
    let right = right_member piece_fields None c.args.pieces.now c.loop-piece.piece-index x c.loop-piece-test.true c.piece-item.is c.requires.1 in
    fits_below _ _ right.1.1.0.0

pub loop-piece-preserved : goal.loop-piece-preserved
loop-piece-preserved c =
    let x = c.piece-item.result in
    written_turn piece_fields c.args.pieces.now c.loop-piece.piece-index x c.loop-piece-test.true c.piece-item.is _ _ _ c.loop-piece.invariant
    (c.in_ok-push_piece.ensures (last_or None (take c.loop-piece.piece-index c.args.pieces.now)))
