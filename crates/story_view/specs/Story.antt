-- The story of a session in a run, line by line: each with its round and with the router that held the session.
use Rattle.std.specs.Prelude.{ℕ, ◌+◌, ◌==◌, List, [], ◌∷◌, ◌++◌, take, unwrap_or, count_by, Option, Some, None, slice_get}
use Rattle.std.specs.Prelude.{Bool, true, false, ◌&&◌, ◌||◌, nat_lt, codes, decimal, if◌then◌else◌}
use Rattle.std.specs.List.{flat_map, enumerate_from}
use Rattle.bgp_types.specs.declared.message.Message.TheVariants.{OpenMsg, UpdateMsg, NoticeMsg, KeepaliveMsg}
use Rattle.bgp_story.specs.declared.line.Line.{Line}
use Rattle.bgp_story.specs.declared.line.Line.TheVariants.{Put, Got, Tick}
use Rattle.bgp_story.specs.Legal.{Peering}
use Rattle.ring_net.specs.declared.entry.JournalEntry.{JournalEntry}
use Rattle.entry_rounds.specs.Rounds.{entry_rounds}
use Rattle.lab_tables.specs.declared.input.LabInput.{LabInput}
use Rattle.lab_tables.specs.declared.input.PeeringInput.{PeeringInput}
use Rattle.lab_report.specs.declared.lab.Lab.{Lab}
use Rattle.lab_report.specs.declared.lab.SessionView.{SessionView}
use Rattle.lab_report.specs.Report.{router_name, line_end}
use Rattle.message_words.specs.Messages.{message_words, read_words}
use Rattle.story_view.specs.declared.moments.Moment.{Moment}
use Rattle.story_view.specs.Readings.{peering_of, expected_at, expected_first}
use Rattle.bgp_types.specs.declared.fault.Expected.{Expected}

-- ---- moments

-- an entry of the journal that adds to the story of a peering's session: of a Put of prefixes (1), a Got (5) or a Tick (31)
abbrev pub adds_to : (peering : ℕ) → JournalEntry → Bool
adds_to peering e = (e.a == peering) && (((e.kind == 1) && nat_lt 0 e.b) || (e.kind == 5) || (e.kind == 31))

-- the moment of such an entry, which stands in the journal at an index
abbrev pub moments_in : (peering : ℕ) → (rounds : List ℕ) → ℕ × JournalEntry → List Moment
moments_in peering rounds x = if adds_to peering x.1 then record { round = unwrap_or (slice_get rounds x.0) 0; holder = x.1.actor } ∷ [] else []

-- In which round and at which router each event of a session was, in the order of the journal. In front of them stands that of the OPEN.
abbrev pub moments : (opening : Moment) → (peering : ℕ) → List JournalEntry → (rounds : List ℕ) → List Moment
moments opening peering journal rounds = opening ∷ flat_map (moments_in peering rounds) (enumerate_from 0 journal)

-- A line with which an event begins its part of the story: an UPDATE that is put, what is got, or a round. A KEEPALIVE or a NOTIFICATION that is put
-- is the answer to the line before it.
abbrev pub begins : Line → Bool
begins (Put (OpenMsg _)) = false
begins (Put (UpdateMsg _)) = true
begins (Put (NoticeMsg _)) = false
begins (Put KeepaliveMsg) = false
begins (Got _) = true
begins (Tick _) = true

-- how many events the lines to this index have
abbrev pub events_to : List Line → ℕ → ℕ
events_to lines index = count_by begins (take (index + 1) lines)

-- ---- lines

-- a NOTIFICATION that is put
abbrev pub ends : Option Line → Bool
ends None = false
ends (Some (Put (OpenMsg _))) = false
ends (Some (Put (UpdateMsg _))) = false
ends (Some (Put (NoticeMsg _))) = true
ends (Some (Put KeepaliveMsg)) = false
ends (Some (Got _)) = false
ends (Some (Tick _)) = false

-- what was put, or got, as the session read it; and of the rounds the one that ended the session
abbrev pub line_words : Expected → (ended : Bool) → Line → Option (List ℕ)
line_words expected ended (Put message) = Some (codes "put  " ++ message_words true message)
line_words expected ended (Got bytes) = Some (codes "got  " ++ read_words true expected bytes)
line_words expected ended (Tick round) = if ended then Some (codes "tick  hold time expired") else None

abbrev pub moment_words : LabInput → Moment → List ℕ
moment_words input moment = codes "round " ++ decimal moment.round ++ codes "  " ++ router_name input moment.holder ++ codes "  "

-- the line of a moment, where there are words
abbrev pub moment_line : LabInput → Moment → Option (List ℕ) → List ℕ
moment_line input moment None = []
moment_line input moment (Some words) = moment_words input moment ++ words ++ line_end

-- ---- the whole

-- the moment of a number among all; the opening one where they are fewer
abbrev pub moment_at : List Moment → (opening : Moment) → ℕ → Moment
moment_at all opening number = unwrap_or (slice_get all number) opening

-- The line at an index. The number of its event in the story is that in the journal; and the line behind it says whether it ended the session.
abbrev pub story_line : LabInput → List Moment → Moment → Expected → List Line → ℕ × Line → List ℕ
story_line input all opening expected lines x =
    moment_line input (moment_at all opening (events_to lines x.0)) (line_words (expected_at expected lines x.0) (ends (slice_get lines (x.0 + 1))) x.1)

abbrev pub story_lines : LabInput → List Moment → Moment → Expected → List Line → List ℕ
story_lines input all opening expected lines = flat_map (story_line input all opening expected lines) (enumerate_from 0 lines)

abbrev pub lines_of : LabInput → List Moment → Moment → Option Peering → List Line → List ℕ
lines_of input all opening None lines = []
lines_of input all opening (Some p) lines = story_lines input all opening (expected_first p lines) lines

-- the OPEN is put in front of the first round, at the router at which the peering starts
abbrev pub opening_of : PeeringInput → Moment
opening_of p = record { round = 0; holder = p.at.0 }

abbrev pub session_text : Lab → (peering : ℕ) → Option PeeringInput → Option SessionView → List ℕ
session_text lab peering None view = []
session_text lab peering (Some p) None = []
session_text lab peering (Some p) (Some view) =
    let all = moments (opening_of p) peering lab.journal (entry_rounds lab.marks lab.journal) in
    lines_of lab.input all (opening_of p) (peering_of view.story) view.story.lines

-- the story of the session of a peering; nothing of a peering that the input hasn't
abbrev pub story_text : Lab → (peering : ℕ) → List ℕ
story_text lab peering = session_text lab peering (slice_get lab.input.peerings peering) (slice_get lab.sessions peering)
