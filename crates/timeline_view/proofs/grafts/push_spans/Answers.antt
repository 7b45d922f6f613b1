use Rattle.std.proofs.Common.{string_bytes}
use Rattle.std.specs.Prelude.{codes}
use Rattle.std.proofs.lemmas.Result.{on_ok_weaker}
use Rattle.timeline_view.proofs.Pieces.{two_behind}
use Rattle.timeline_view.proofs.grafts.push_spans.Goals as goal

-- one span behind the other
pub returns : goal.returns
returns c =
    let start = string_bytes c.args.text.now in
    let two = two_behind start _ _ _ (codes " frozen ") _ c.in_ok-push_named_span.ensures c.in_ok-push_named_span-2.ensures in
    on_ok_weaker c.push_named_span-3.result (two_behind start _ _ _ (codes " to landing ") _ two) c.push_named_span-3.ensures
