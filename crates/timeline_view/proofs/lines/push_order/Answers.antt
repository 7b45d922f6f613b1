use Rattle.std.proofs.Common.{string_bytes}
use Rattle.std.specs.Prelude.{codes}
use Rattle.std.proofs.lemmas.Result.{on_ok_weaker}
use Rattle.timeline_view.proofs.Pieces.{one_behind, four_behind}
use Rattle.timeline_view.proofs.lines.push_order.Goals as goal

pub returns : goal.returns
returns c =
    let start = string_bytes c.args.text.now in
    let named = four_behind start _ _ _ (codes " ") _ (codes " from ") _ c.in_ok-push_number.ensures c.in_ok-push_with_source.ensures in
    let to = one_behind start _ _ _ (codes " to ") named c.in_ok-push_str.ensures.bytes in
    on_ok_weaker c.push_target.result (one_behind start _ _ _ _ to) c.push_target.ensures
