use Rattle.picture_view.proofs.Pieces.{bow_behind}
use Rattle.picture_view.proofs.shapes.push_bow_line.Goals as goal

pub returns : goal.returns
returns c =
    bow_behind c.args.peering c.args.x c.args.y c.args.to_x c.args.to_y c.in_ok-middle.field-0 _ _ _ c.in_ok-middle.ensures
    c.in_ok-push_coloured_start.ensures c.in_ok-write.ensures.bytes
