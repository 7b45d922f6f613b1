use Rattle.std.proofs.Common.{string_bytes, sym, append-nil, ap, ◌∙◌, sum_by, []}
use Rattle.std.specs.Prelude.{codes}
use Rattle.lab_report.specs.Report.{line_end}
use Rattle.timeline_view.specs.Sessions.{further_opens, notices, withdrawn_after}
use Rattle.timeline_view.proofs.Pieces.{one_behind, number_behind}
use Rattle.timeline_view.proofs.sessions.push_total.Goals as goal

pub returns : goal.returns
returns c =
    let start = string_bytes c.args.text.now in
    let opens = c.in_ok-opens.ensures ∙ ap (sum_by further_opens) c.as_slice.ensures in
    let told = c.in_ok-notices.ensures ∙ ap (sum_by notices) c.as_slice-2.ensures in
    let withdrawn = c.in_ok-withdrawn.ensures ∙ ap (sum_by (withdrawn_after c.args.lab.now c.args.all.now)) c.as_slice-3.ensures in
    let first = number_behind start start _ [] (codes "total  further OPENs ") _ _ opens (sym (append-nil start)) c.in_ok-push_number.ensures in
    let second = number_behind start _ _ _ (codes "  NOTIFICATIONs ") _ _ told first c.in_ok-push_number-2.ensures in
    let third = number_behind start _ _ _ (codes "  withdrawn from moved remotes ") _ _ withdrawn second c.in_ok-push_number-3.ensures in
    one_behind start _ _ _ line_end third c.in_ok-push_str.ensures.bytes
