-- What both OPENs agreed on, and what a session came to by its parts.
use Rattle.std.proofs.Common.{◌≡◌, ℕ, List, min, Bool, Option, Some, sym, ap, ◌∙◌}
use Rattle.serde_json.specs.Data.{Data}
use Rattle.bgp_types.specs.declared.message.OpenMsg as open_type
use Rattle.bgp_story.specs.Legal.{Peering, both_offer, got_open, is_wide}
use Rattle.bgp_story.specs.States.{state_of}
use Rattle.bgp_story.specs.declared.line.Line.{Line}
use Rattle.lab_report.specs.Report.{state_text}
use Rattle.show_view.specs.Sessions.{as_octets}
use Rattle.report_json.specs.Values.{count}
use Rattle.show_json.specs.Sessions.{hold_json, width_json, closing_json, received_json, sent_json, session_object, session_json}

module _ (ours : open_type.OpenMsg) (opened : Option open_type.OpenMsg) (theirs : open_type.OpenMsg) (is : opened ≡ Some theirs) where
  pub hold_is : (hold : ℕ) → hold ≡ min ours.hold theirs.hold → count hold ≡ hold_json ours opened
  hold_is hold smaller = ap count smaller ∙ ap (hold_json ours) (sym is)

  pub width_is : (octets : ℕ) (wide : Bool) → octets ≡ as_octets wide → wide ≡ both_offer ours opened → count octets ≡ width_json ours opened
  width_is octets wide written offered = ap count (written ∙ ap as_octets (offered ∙ ap (both_offer ours) is)) ∙ ap (width_json ours) (sym is)

pub session_is : (p : Peering) (lines : List Line) (width closed hold received sent : Data) (state : List ℕ) → width ≡ width_json p.first (got_open p lines)
    → closed ≡ closing_json p lines → hold ≡ hold_json p.first (got_open p lines) → received ≡ received_json lines
    → sent ≡ sent_json (is_wide p lines) lines → state ≡ state_text (state_of lines)
    → session_object width closed hold received sent state ≡ session_json p lines
session_is p lines width closed hold received sent state w c h r s t =
    let open_width = width_json p.first (got_open p lines) in
    let open_hold = hold_json p.first (got_open p lines) in
    ap (λ (d : Data). session_object d closed hold received sent state) w
    ∙ ap (λ (d : Data). session_object open_width d hold received sent state) c
    ∙ ap (λ (d : Data). session_object open_width (closing_json p lines) d received sent state) h
    ∙ ap (λ (d : Data). session_object open_width (closing_json p lines) open_hold d sent state) r
    ∙ ap (λ (d : Data). session_object open_width (closing_json p lines) open_hold (received_json lines) d state) s
    ∙ ap (session_object open_width (closing_json p lines) open_hold (received_json lines) (sent_json (is_wide p lines) lines)) t
