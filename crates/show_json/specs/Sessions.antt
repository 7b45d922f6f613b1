-- What a session came to, as JSON.
use Rattle.std.specs.Prelude.{ℕ, Bool, List, [], ◌∷◌, count_by, Option, Some, None, Result, Ok, Err, codes}
use Rattle.serde_json.specs.Data.{Data, null, string}
use Rattle.bgp_types.specs.FirstFault.{message_of}
use Rattle.bgp_types.specs.declared.fault.Expected.{Expected}
use Rattle.bgp_types.specs.declared.message.Message.{Message}
use Rattle.bgp_types.specs.declared.message.Message.TheVariants.{OpenMsg, UpdateMsg, NoticeMsg, KeepaliveMsg}
use Rattle.bgp_types.specs.declared.message.Notice.{Notice}
use Rattle.bgp_types.specs.declared.message.OpenMsg as open_type
use Rattle.bgp_story.specs.declared.line.Line.{Line}
use Rattle.bgp_story.specs.declared.line.Line.TheVariants.{Put, Got, Tick}
use Rattle.bgp_story.specs.Legal.{Peering, both_offer, expected_next, got_open, is_wide, smaller_hold}
use Rattle.bgp_story.specs.States.{state_of}
use Rattle.lab_report.specs.Report.{state_text}
use Rattle.show_view.specs.Sessions.{as_octets, before_last, is_got, is_put, last_of, received_octets, sent_octets}
use Rattle.report_json.specs.Values.{count, fields}
use Rattle.message_json.specs.Messages.{notice_json}

-- ---- what was agreed on

-- the hold time and the width of AS numbers by both OPENs; nothing before the remote's was got
abbrev pub hold_json : (ours : open_type.OpenMsg) → (theirs : Option open_type.OpenMsg) → Data
hold_json ours None = null
hold_json ours (Some theirs) = count (smaller_hold ours (Some theirs))

abbrev pub width_json : (ours : open_type.OpenMsg) → (theirs : Option open_type.OpenMsg) → Data
width_json ours None = null
width_json ours (Some theirs) = count (as_octets (both_offer ours (Some theirs)))

-- ---- what went each way

abbrev pub sizes_json : (messages octets : ℕ) → Data
sizes_json messages octets = fields ((codes "messages", count messages) ∷ (codes "octets", count octets) ∷ [])

abbrev pub sent_json : (wide : Bool) → List Line → Data
sent_json wide lines = sizes_json (count_by is_put lines) (sent_octets wide lines)

abbrev pub received_json : List Line → Data
received_json lines = sizes_json (count_by is_got lines) (received_octets lines)

-- ---- why it closed

abbrev pub closed_json : (how : List ℕ) → (notice round : Data) → Data
closed_json how notice round = fields ((codes "how", string how) ∷ (codes "notice", notice) ∷ (codes "round", round) ∷ [])

abbrev pub expired_json : (round : ℕ) → Data
expired_json round = closed_json (codes "hold time expired") null (count round)

-- by a NOTIFICATION that was sent; behind a second it says that the hold time expired in it
abbrev pub closed_by : (before : Option Line) → Notice → Data
closed_by None n = closed_json (codes "sent") (notice_json n) null
closed_by (Some (Put _)) n = closed_json (codes "sent") (notice_json n) null
closed_by (Some (Got _)) n = closed_json (codes "sent") (notice_json n) null
closed_by (Some (Tick round)) n = expired_json round

-- by one that was received
abbrev pub closed_for : Result Message Notice → Data
closed_for (Ok (OpenMsg _)) = null
closed_for (Ok (UpdateMsg _)) = null
closed_for (Ok (NoticeMsg n)) = closed_json (codes "received") (notice_json n) null
closed_for (Ok KeepaliveMsg) = null
closed_for (Err _) = null

-- by the last line, the one before it, and what was expected there
abbrev pub closing_of : Expected → (before last : Option Line) → Data
closing_of expected before None = null
closing_of expected before (Some (Put (OpenMsg _))) = null
closing_of expected before (Some (Put (UpdateMsg _))) = null
closing_of expected before (Some (Put (NoticeMsg n))) = closed_by before n
closing_of expected before (Some (Put KeepaliveMsg)) = null
closing_of expected before (Some (Got bytes)) = closed_for (message_of expected bytes)
closing_of expected before (Some (Tick _)) = null

-- why the session closed; nothing where it didn't
abbrev pub closing_json : Peering → List Line → Data
closing_json p lines = closing_of (expected_next p lines (state_of (before_last lines))) (last_of (before_last lines)) (last_of lines)

-- ---- the whole

abbrev pub session_object : (width closed hold received sent : Data) → (state : List ℕ) → Data
session_object width closed hold received sent state = fields
    ((codes "as_octets", width) ∷ (codes "closed", closed) ∷ (codes "hold", hold) ∷ (codes "received", received) ∷ (codes "sent", sent)
    ∷ (codes "state", string state) ∷ [])

-- its state, what was agreed on, what went each way, and why it closed
abbrev pub session_json : Peering → List Line → Data
session_json p lines = session_object
    (width_json p.first (got_open p lines)) (closing_json p lines) (hold_json p.first (got_open p lines))
    (received_json lines) (sent_json (is_wide p lines) lines) (state_text (state_of lines))
