use Rattle.picture_view.proofs.Pieces.{titled_behind}
use Rattle.picture_view.proofs.shapes.push_graft_end.Goals as goal

pub returns : goal.returns
returns c = titled_behind _ _ _ _ _ c.in_ok-push_str.ensures.bytes c.in_ok-push_graft_title.ensures c.in_ok-push_str-2.ensures.bytes
