use Rattle.std.proofs.Common.{string_bytes}
use Rattle.std.specs.Prelude.{codes}
use Rattle.std.proofs.lemmas.Result.{on_ok_weaker}
use Rattle.timeline_view.proofs.Pieces.{one_behind}
use Rattle.timeline_view.proofs.lines.push_said.Goals as goal

pub returns : goal.returns
returns c =
    let start = string_bytes c.args.text.now in
    let numbered = one_behind start _ _ _ (codes "]") c.in_ok-push_number.ensures c.in_ok-push_str.ensures.bytes in
    on_ok_weaker c.push_step.result (one_behind start _ _ _ _ numbered) c.push_step.ensures
