use Rattle.timeline_view.proofs.Pieces.{did_behind}
use Rattle.timeline_view.proofs.lines.push_say.Goals as goal

pub returns : goal.returns
returns c =
    did_behind c.args.round c.args.name.now _ _ _ _ _ c.in_ok-push_actor.ensures c.in_ok-push_said.ensures c.in_ok-push_str.ensures.bytes
