use Rattle.std.proofs.Common.{string_bytes, sym, append-nil, []}
use Rattle.std.specs.Prelude.{codes}
use Rattle.std.proofs.lemmas.Result.{on_ok_weaker}
use Rattle.timeline_view.proofs.Pieces.{number_behind}
use Rattle.timeline_view.proofs.grafts.push_updates.Goals as goal

pub returns : goal.returns
returns c =
    let start = string_bytes c.args.text.now in
    on_ok_weaker c.push_number-3.result (λ last these counted.
    let updates = number_behind start start _ [] (codes " UPDATEs ") _ _ counted.updates (sym (append-nil start)) c.in_ok-push_number.ensures in
    let announced = number_behind start _ _ _ (codes " announced ") _ _ counted.announced updates c.in_ok-push_number-2.ensures in
    number_behind start _ _ _ (codes " withdrawn ") _ _ counted.withdrawn announced last) c.push_number-3.ensures
