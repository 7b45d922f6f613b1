use Rattle.std.proofs.Common.{string_bytes}
use Rattle.std.specs.Prelude.{codes}
use Rattle.lab_report.specs.Report.{line_end}
use Rattle.timeline_view.proofs.Pieces.{one_behind, number_behind}
use Rattle.timeline_view.proofs.sessions.push_session.Goals as goal

pub returns : goal.returns
returns c =
    let start = string_bytes c.args.text.now in
    let named = one_behind start _ _ (codes "session ") _ c.in_ok-push_str.ensures.bytes c.in_ok-push_str-2.ensures.bytes in
    let open_put = number_behind start _ _ _ (codes "  OPEN put ") _ _ c.opens_put-open_put.ensures named c.in_ok-push_number.ensures in
    let open_got = number_behind start _ _ _ (codes " got ") _ _ c.opens_got-open_got.ensures open_put c.in_ok-push_number-2.ensures in
    let notice_put = number_behind start _ _ _ (codes "  NOTIFICATION put ") _ _ c.notices_put-notice_put.ensures open_got c.in_ok-push_number-3.ensures in
    let notice_got = number_behind start _ _ _ (codes " got ") _ _ c.notices_got-notice_got.ensures notice_put c.in_ok-push_number-4.ensures in
    one_behind start _ _ _ line_end notice_got c.in_ok-push_str-3.ensures.bytes
