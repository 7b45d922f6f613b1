-- What a session came to: what both sides agreed on, what went each way, and why it closed.
use Rattle.std.specs.Prelude.{ℕ, ◌-◌, ◌^◌, min, length, List, [], ◌++◌, take, count_by, sum_by, Option, Some, None, slice_get, Result, Ok, Err}
use Rattle.std.specs.Prelude.{Bool, true, false, codes, decimal, if◌then◌else◌}
use Rattle.bgp_types.specs.declared.fault.Expected.{Expected}
use Rattle.bgp_types.specs.declared.message.Message.{Message}
use Rattle.bgp_types.specs.declared.message.Message.TheVariants.{OpenMsg, UpdateMsg, NoticeMsg, KeepaliveMsg}
use Rattle.bgp_types.specs.declared.message.Notice.{Notice}
use Rattle.bgp_types.specs.declared.message.OpenMsg as open_type
use Rattle.bgp_types.specs.FirstFault.{message_of}
use Rattle.bgp_story.specs.declared.line.Line.{Line}
use Rattle.bgp_story.specs.declared.line.Line.TheVariants.{Put, Got, Tick}
use Rattle.bgp_story.specs.Legal.{Peering, both_offer, expected_next, got_open, smaller_hold}
use Rattle.bgp_story.specs.Readings.{got_bytes, put_in}
use Rattle.bgp_story.specs.States.{state_of}
use Rattle.lab_tables.specs.declared.input.LabInput.{LabInput}
use Rattle.lab_report.specs.declared.lab.Place.{Place}
use Rattle.lab_report.specs.Report.{line_end, place_text, place_words, state_text}
use Rattle.message_words.specs.Notices.{notice_words}

-- ---- what was agreed on

-- in how many octets an AS number is written
abbrev pub as_octets : (wide : Bool) → ℕ
as_octets wide = if wide then 4 else 2

-- the hold time and the width of AS numbers by both OPENs; dashes before the remote's was got
abbrev pub agreed_words : (ours : open_type.OpenMsg) → (theirs : Option open_type.OpenMsg) → List ℕ
agreed_words ours None = codes " hold - as-octets -"
agreed_words ours (Some theirs) =
    codes " hold " ++ decimal (smaller_hold ours (Some theirs)) ++ codes " as-octets " ++ decimal (as_octets (both_offer ours (Some theirs)))

-- where the session is, its state, and what was agreed on
abbrev pub state_line : LabInput → (name : List ℕ) → Option Place → Peering → List Line → List ℕ
state_line input name place p lines =
    place_words name (place_text input place) ++ codes " state " ++ state_text (state_of lines) ++ agreed_words p.first (got_open p lines) ++ line_end

-- ---- what went each way

abbrev pub is_put : Line → Bool
is_put (Put _) = true
is_put (Got _) = false
is_put (Tick _) = false

abbrev pub is_got : Line → Bool
is_got (Put _) = false
is_got (Got _) = true
is_got (Tick _) = false

-- how many octets a line put; no memory holds more than 2^64 - 1
abbrev pub put_size : (wide : Bool) → Line → ℕ
put_size wide line = min (length (put_in wide line)) (2 ^ 64 - 1)

-- how many octets were put, and how many were got
abbrev pub sent_octets : (wide : Bool) → List Line → ℕ
sent_octets wide lines = sum_by (put_size wide) lines

abbrev pub received_octets : List Line → ℕ
received_octets lines = length (got_bytes lines)

-- messages and octets, those that were sent first
abbrev pub messages_line : (name : List ℕ) → (wide : Bool) → List Line → List ℕ
messages_line name wide lines =
    codes "messages " ++ name ++ codes " sent " ++ decimal (count_by is_put lines) ++ codes " octets " ++ decimal (sent_octets wide lines)
    ++ codes " received " ++ decimal (count_by is_got lines) ++ codes " octets " ++ decimal (received_octets lines) ++ line_end

-- ---- why it closed

abbrev pub last_of : List Line → Option Line
last_of lines = slice_get lines (length lines - 1)

abbrev pub before_last : List Line → List Line
before_last lines = take (length lines - 1) lines

-- a NOTIFICATION that was sent; behind a second it says that the hold time expired in it
abbrev pub sent_words : (before : Option Line) → Notice → List ℕ
sent_words None n = codes "sent " ++ notice_words n
sent_words (Some (Put _)) n = codes "sent " ++ notice_words n
sent_words (Some (Got _)) n = codes "sent " ++ notice_words n
sent_words (Some (Tick round)) n = codes "hold time expired in round " ++ decimal round

-- a NOTIFICATION that was received
abbrev pub received_words : Result Message Notice → Option (List ℕ)
received_words (Ok (OpenMsg _)) = None
received_words (Ok (UpdateMsg _)) = None
received_words (Ok (NoticeMsg n)) = Some (codes "received " ++ notice_words n)
received_words (Ok KeepaliveMsg) = None
received_words (Err _) = None

-- by the last line, the one before it, and what was expected there
abbrev pub closing_words : Expected → (before last : Option Line) → Option (List ℕ)
closing_words expected before None = None
closing_words expected before (Some (Put (OpenMsg _))) = None
closing_words expected before (Some (Put (UpdateMsg _))) = None
closing_words expected before (Some (Put (NoticeMsg n))) = Some (sent_words before n)
closing_words expected before (Some (Put KeepaliveMsg)) = None
closing_words expected before (Some (Got bytes)) = received_words (message_of expected bytes)
closing_words expected before (Some (Tick _)) = None

-- Why the session closed: nothing follows the NOTIFICATION that closes it.
abbrev pub closing : Peering → List Line → Option (List ℕ)
closing p lines = closing_words (expected_next p lines (state_of (before_last lines))) (last_of (before_last lines)) (last_of lines)

abbrev pub closed_start : (name : List ℕ) → List ℕ
closed_start name = codes "closed " ++ name ++ codes " "

-- a session that isn't closed has no such line
abbrev pub closed_line : (name : List ℕ) → Option (List ℕ) → List ℕ
closed_line name None = []
closed_line name (Some words) = closed_start name ++ words ++ line_end
