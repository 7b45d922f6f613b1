use Rattle.std.proofs.Common.{◌≡◌, Bool, ap, sym, ◌∙◌, rules}
use Rattle.std.specs.Prelude.{OnOk}
use Rattle.std.proofs.lemmas.Result.{on_ok_weaker}
use Rattle.serde_json.specs.Data.{Data}
use Rattle.bgp_types.specs.declared.fault.Expected.{Expected}
use Rattle.bgp_story.specs.Legal.{both_offer, got_open, is_wide}
use Rattle.lab_report.specs.Report.{state_text}
use Rattle.report_json.specs.Tokens.{with_value}
use Rattle.why_view.specs.Stories.{story_peering}
use Rattle.show_view.specs.Sessions.{before_last, last_of}
use Rattle.show_json.specs.Sessions.{hold_json, width_json, sent_json, received_json, closing_of, closing_json, session_object}
use Rattle.show_json.proofs.Agreed.{session_is}
use Rattle.show_json.proofs.sessions.write_session.Goals as goal

pub returns : goal.returns
returns c = λ input got.
    let old = c.args.out.now in
    let p = story_peering input c.args.peering.now in
    let lines = c.args.story.now.lines in
    let read = c.lines_of-lines.result.now in
    let same = c.lines_of-lines.ensures.lines in
    let expected = c.expected_last-expected.ensures input (got ∙ ap (got_open p) (sym same)) in
    let closed = ap (λ (e : Expected). closing_of e (last_of (before_last read)) (last_of read)) expected ∙ ap (closing_json p) same in
    let wide = c.is_wide-wide.ensures input ∙ ap (both_offer p.first) got in
    let sent = ap (λ (w : Bool). sent_json w read) wide ∙ ap (sent_json (is_wide p lines)) same in
    let written : OnOk c.end_object.result (c.end_object.new.self ≡ with_value (session_object (width_json p.first c.args.opened.now)
    (closing_of c.expected_last-expected.result (last_of (before_last read)) (last_of read)) (hold_json p.first c.args.opened.now)
    (received_json read) (sent_json c.is_wide-wide.result read) c.state_name-state.result.now) old) =
    search (rules, c.in_ok-write_width.ensures input, c.in_ok-write_hold.ensures input) in
    on_ok_weaker c.end_object.result
    (λ w. w ∙ ap (λ (d : Data). with_value d old) (session_is p lines _ _ _ _ _ _ (ap (width_json p.first) got) closed (ap (hold_json p.first) got)
    (ap received_json same) sent (c.state_name-state.ensures ∙ ap state_text c.state.ensures))) written
