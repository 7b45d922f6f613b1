-- The messages that an event of a session put and got, as its story has them.
use Rattle.std.specs.Prelude.{ℕ, false, ◌+◌, List, [], ◌∷◌, ◌++◌, map, take, Option, Some, None, slice_get, codes, decimal, if◌then◌else◌}
use Rattle.std.specs.List.{flat_map, enumerate_from}
use Rattle.std.specs.Option.{option_map}
use Rattle.bgp_types.specs.declared.fault.Expected.{Expected}
use Rattle.bgp_types.specs.declared.message.Message.{Message}
use Rattle.bgp_types.specs.declared.message.Message.TheVariants.{OpenMsg, UpdateMsg, NoticeMsg, KeepaliveMsg}
use Rattle.bgp_types.specs.declared.message.Update.{Update}
use Rattle.bgp_story.specs.declared.line.Line.{Line}
use Rattle.bgp_story.specs.declared.line.Line.TheVariants.{Put, Got, Tick}
use Rattle.bgp_story.specs.States.{StoryValue, state_of}
use Rattle.lab_report.specs.declared.lab.Lab.{Lab}
use Rattle.lab_report.specs.declared.lab.SessionView.{SessionView}
use Rattle.lab_report.specs.Report.{line_end}
use Rattle.message_words.specs.Messages.{message_words, read_words}
use Rattle.story_view.specs.Readings.{peering_of, expected_first}
use Rattle.story_view.specs.Story.{begins}
use Rattle.timeline_view.specs.declared.outline.Head.{Head}
use Rattle.timeline_view.specs.declared.outline.Outline.{Outline}

-- ---- the outline of a story

-- a line with which an event begins, by its index, and the state of the session before it
abbrev pub head_in : List Line → ℕ × Line → List Head
head_in lines x = if begins x.1 then (record { index = x.0; state = state_of (take x.0 lines) }) ∷ [] else []

-- these lines: the n-th is that of the session's n-th event
abbrev pub heads : List Line → List Head
heads lines = flat_map (head_in lines) (enumerate_from 0 lines)

abbrev pub outline_of : StoryValue → Outline
outline_of story = record { heads = heads story.lines; expected = option_map (λ p. expected_first p story.lines) (peering_of story) }

-- the outlines of the stories of all sessions
abbrev pub outlines_of : Lab → List Outline
outlines_of lab = map (λ view. outline_of view.story) lab.sessions

-- ---- lines

-- what the holder of a session put, and got
abbrev pub put_line : (round : ℕ) → (holder remote : List ℕ) → Message → List ℕ
put_line round holder remote message =
    codes "round " ++ decimal round ++ codes "  " ++ holder ++ codes " -> " ++ remote ++ codes "  " ++ message_words false message ++ line_end

abbrev pub reading_words : Option Expected → Head → List ℕ → List ℕ
reading_words None head bytes = []
reading_words (Some expected) head bytes = read_words false (record expected { state = head.state }) bytes

abbrev pub got_line : (round : ℕ) → (holder remote : List ℕ) → Option Expected → Head → List ℕ → List ℕ
got_line round holder remote expected head bytes =
    codes "round " ++ decimal round ++ codes "  " ++ holder ++ codes " <- " ++ remote ++ codes "  " ++ reading_words expected head bytes ++ line_end

-- the line with which an event begins; a round has none
abbrev pub head_line : (round : ℕ) → (holder remote : List ℕ) → Option Expected → Head → Option Line → List ℕ
head_line round holder remote expected head None = []
head_line round holder remote expected head (Some (Put message)) = put_line round holder remote message
head_line round holder remote expected head (Some (Got bytes)) = got_line round holder remote expected head bytes
head_line round holder remote expected head (Some (Tick number)) = []

-- the answer to the line before it: a KEEPALIVE or a NOTIFICATION that is put
abbrev pub answer_line : (round : ℕ) → (holder remote : List ℕ) → Option Line → List ℕ
answer_line round holder remote None = []
answer_line round holder remote (Some (Put (OpenMsg _))) = []
answer_line round holder remote (Some (Put (UpdateMsg _))) = []
answer_line round holder remote (Some (Put (NoticeMsg n))) = put_line round holder remote (NoticeMsg n)
answer_line round holder remote (Some (Put KeepaliveMsg)) = put_line round holder remote KeepaliveMsg
answer_line round holder remote (Some (Got _)) = []
answer_line round holder remote (Some (Tick _)) = []

-- the lines of an event, by the outline of the story
abbrev pub event_lines : (round : ℕ) → (holder remote : List ℕ) → List Line → Option Expected → Option Head → List ℕ
event_lines round holder remote lines expected None = []
event_lines round holder remote lines expected (Some head) =
    head_line round holder remote expected head (slice_get lines head.index) ++ answer_line round holder remote (slice_get lines (head.index + 1))

-- the lines of the session's event of this number, from 0
abbrev pub session_lines : (round : ℕ) → (holder remote : List ℕ) → (nth : ℕ) → Option SessionView → List ℕ
session_lines round holder remote nth None = []
session_lines round holder remote nth (Some view) =
    event_lines round holder remote view.story.lines (outline_of view.story).expected (slice_get (outline_of view.story).heads nth)

-- ---- UPDATEs

abbrev pub update_put : Option Line → Option Update
update_put None = None
update_put (Some (Put (OpenMsg _))) = None
update_put (Some (Put (UpdateMsg u))) = Some u
update_put (Some (Put (NoticeMsg _))) = None
update_put (Some (Put KeepaliveMsg)) = None
update_put (Some (Got _)) = None
update_put (Some (Tick _)) = None

abbrev pub line_at : List Line → Option Head → Option Line
line_at lines None = None
line_at lines (Some head) = slice_get lines head.index

-- the UPDATE that the session's event of this number put
abbrev pub update_at : (nth : ℕ) → Option SessionView → Option Update
update_at nth None = None
update_at nth (Some view) = update_put (line_at view.story.lines (slice_get (outline_of view.story).heads nth))
