use Rattle.std.proofs.Common.{string_bytes}
use Rattle.std.specs.Prelude.{codes}
use Rattle.lab_report.specs.Report.{line_end}
use Rattle.timeline_view.proofs.Pieces.{one_behind, two_behind, number_behind}
use Rattle.timeline_view.proofs.grafts.push_graft_lines.Goals as goal

pub returns : goal.returns
returns c =
    let start = string_bytes c.args.text.now in
    let numbered = two_behind start _ _ _ (codes "graft ") _ c.in_ok-push_graft.ensures c.in_ok-push_number.ensures in
    let spans = one_behind start _ _ _ _ numbered c.in_ok-push_spans.ensures in
    let astray = number_behind start _ _ _ (codes " astray ") _ _ c.strays_of-astray.ensures spans c.in_ok-push_number-2.ensures in
    let updates = one_behind start _ _ _ _ astray (c.in_ok-push_updates.ensures _ c.in_ok-counts.ensures) in
    one_behind start _ _ _ line_end updates c.in_ok-push_str.ensures.bytes
