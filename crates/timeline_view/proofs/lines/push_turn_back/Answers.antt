use Rattle.std.proofs.Common.{string_bytes, sym, append-nil, []}
use Rattle.std.specs.Prelude.{codes}
use Rattle.std.proofs.lemmas.Result.{on_ok_weaker}
use Rattle.timeline_view.proofs.Pieces.{one_behind, four_behind}
use Rattle.timeline_view.proofs.lines.push_turn_back.Goals as goal

pub returns : goal.returns
returns c =
    let start = string_bytes c.args.text.now in
    let to = four_behind start start _ [] (codes "turned back ") _ (codes " to ") _ (sym (append-nil start)) c.in_ok-push_with_source.ensures in
    on_ok_weaker c.push_reason.result (one_behind start _ _ _ _ to) c.push_reason.ensures
