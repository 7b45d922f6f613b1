-- What happened in a run, as JSON.
use Rattle.std.specs.Prelude.{ℕ, ◌+◌, List, [], ◌∷◌, ◌++◌, length, Option, Some, None, option_and_then, codes, slice_get}
use Rattle.serde_json.specs.Data.{Data, null, string}
use Rattle.bgp_types.specs.Prefixes.{PrefixValue}
use Rattle.bgp_types.specs.declared.fault.Expected.{Expected}
use Rattle.bgp_types.specs.declared.message.Message.{Message}
use Rattle.bgp_types.specs.declared.message.Message.TheVariants.{OpenMsg, UpdateMsg, NoticeMsg, KeepaliveMsg}
use Rattle.bgp_story.specs.declared.line.Line.{Line}
use Rattle.bgp_story.specs.declared.line.Line.TheVariants.{Put, Got, Tick}
use Rattle.tcp_seq.specs.declared.segment.Way.{Way}
use Rattle.tcp_seq.specs.declared.segment.Way.TheVariants.{Home, Remote}
use Rattle.graft_steps.specs.declared.log.GraftEntry.{GraftEntry}
use Rattle.lab_tables.specs.declared.input.LabInput.{LabInput}
use Rattle.lab_tables.specs.declared.input.Step.{Step}
use Rattle.lab_tables.specs.declared.input.Step.TheVariants as steps
use Rattle.lab_report.specs.declared.lab.Lab.{Lab}
use Rattle.lab_report.specs.declared.lab.SessionView.{SessionView}
use Rattle.lab_report.specs.Report.{peering_name, router_name}
use Rattle.lab_report.specs.Summary.{announced_in_step}
use Rattle.report_json.specs.Run.{source_json, stage_refusal}
use Rattle.report_json.specs.Values.{count, count_or_null, fields}
use Rattle.timeline_view.specs.declared.event.Event.{Event}
use Rattle.timeline_view.specs.declared.event.Event.TheVariants.{Decide, Tell, Hear, Message as MessageEvent, Stray, Admit, Refuse}
use Rattle.timeline_view.specs.declared.event.Event.TheVariants.{Freeze, Leave, Land, TurnBack}
use Rattle.timeline_view.specs.declared.event.Event.TheVariants.{Return, Clear, Confirm, Say, Lose, Repeat, Order, Begin}
use Rattle.timeline_view.specs.declared.event.Happening.{Happening}
use Rattle.timeline_view.specs.declared.outline.Head.{Head}
use Rattle.timeline_view.specs.Lines.{actor_name}
use Rattle.timeline_view.specs.Messages.{outline_of}
use Rattle.timeline_view.specs.Numbers.{graft_in}
use Rattle.message_json.specs.Messages.{prefixes_json, message_json, read_json}

-- what an actor did in a round, and what that was about
abbrev pub event_json : (round : ℕ) → (actor what : List ℕ) → (about : Data) → Data
event_json round actor what about =
    fields ((codes "about", about) ∷ (codes "actor", string actor) ∷ (codes "event", string what) ∷ (codes "round", count round) ∷ [])

-- ---- messages

abbrev pub about_message : (remote : List ℕ) → (message : Data) → Data
about_message remote message = fields ((codes "message", message) ∷ (codes "peering", string remote) ∷ [])

abbrev pub put_json : (round : ℕ) → (holder remote : List ℕ) → Message → Data
put_json round holder remote message = event_json round holder (codes "put") (about_message remote (message_json message))

abbrev pub reading_json : Option Expected → Head → List ℕ → Data
reading_json None head bytes = null
reading_json (Some expected) head bytes = read_json (record expected { state = head.state }) bytes

abbrev pub got_json : (round : ℕ) → (holder remote : List ℕ) → Option Expected → Head → List ℕ → Data
got_json round holder remote expected head bytes = event_json round holder (codes "got") (about_message remote (reading_json expected head bytes))

-- the line of a story with which an event begins; a round has none
abbrev pub head_json : (round : ℕ) → (holder remote : List ℕ) → Option Expected → Head → Option Line → List Data
head_json round holder remote expected head None = []
head_json round holder remote expected head (Some (Put message)) = put_json round holder remote message ∷ []
head_json round holder remote expected head (Some (Got bytes)) = got_json round holder remote expected head bytes ∷ []
head_json round holder remote expected head (Some (Tick number)) = []

-- the answer to the line before it: a KEEPALIVE or a NOTIFICATION that is put
abbrev pub answered_json : (round : ℕ) → (holder remote : List ℕ) → Option Line → List Data
answered_json round holder remote None = []
answered_json round holder remote (Some (Put (OpenMsg _))) = []
answered_json round holder remote (Some (Put (UpdateMsg _))) = []
answered_json round holder remote (Some (Put (NoticeMsg n))) = put_json round holder remote (NoticeMsg n) ∷ []
answered_json round holder remote (Some (Put KeepaliveMsg)) = put_json round holder remote KeepaliveMsg ∷ []
answered_json round holder remote (Some (Got _)) = []
answered_json round holder remote (Some (Tick _)) = []

abbrev pub messages_at : (round : ℕ) → (holder remote : List ℕ) → List Line → Option Expected → Option Head → List Data
messages_at round holder remote lines expected None = []
messages_at round holder remote lines expected (Some head) =
    head_json round holder remote expected head (slice_get lines head.index) ++ answered_json round holder remote (slice_get lines (head.index + 1))

-- the messages of the session's event of this number, from 0
abbrev pub messages_json : (round : ℕ) → (holder remote : List ℕ) → (nth : ℕ) → Option SessionView → List Data
messages_json round holder remote nth None = []
messages_json round holder remote nth (Some view) =
    messages_at round holder remote view.story.lines (outline_of view.story).expected (slice_get (outline_of view.story).heads nth)

-- ---- grafts

-- what a router or the operator did with the session of a graft
abbrev pub graft_word : Event → List ℕ
graft_word (Order _) = codes "ordered"
graft_word (Admit _) = codes "admitted"
graft_word (Refuse _) = codes "refused"
graft_word (Freeze _) = codes "froze"
graft_word (Leave _) = codes "sent"
graft_word (Land _) = codes "landed"
graft_word (TurnBack _) = codes "turned back"
graft_word (Return _) = codes "took back"
graft_word (Clear _) = codes "cleared"
graft_word (Confirm _) = codes "confirmed"
graft_word event = []

-- why it was refused or turned back
abbrev pub refusal_of : GraftEntry → Event → Data
refusal_of g (Refuse _) = stage_refusal g.stage
refusal_of g (TurnBack _) = stage_refusal g.stage
refusal_of g event = null

abbrev pub about_graft : LabInput → GraftEntry → (refusal : Data) → Data
about_graft input g refusal = fields
    ((codes "graft", count g.graft) ∷ (codes "peering", string (peering_name input g.peering.0)) ∷ (codes "refusal", refusal)
    ∷ (codes "source", source_json input g.source) ∷ (codes "target", string (router_name input g.target.0)) ∷ [])

-- that of a graft that the log has
abbrev pub did_graft : LabInput → (round : ℕ) → (name : List ℕ) → Event → Option GraftEntry → List Data
did_graft input round name event None = []
did_graft input round name event (Some g) = event_json round name (graft_word event) (about_graft input g (refusal_of g event)) ∷ []

-- ---- remotes and links

abbrev pub withdrawn_in_step : Step → List PrefixValue
withdrawn_in_step (steps.Withdraw peering prefixes) = prefixes
withdrawn_in_step step = []

-- how many octets a raw step says
abbrev pub octets_in_step : Step → Option ℕ
octets_in_step (steps.Raw peering bytes) = Some (length bytes)
octets_in_step step = None

abbrev pub prefixes_in : (Step → List PrefixValue) → Option Step → Data
prefixes_in form None = prefixes_json []
prefixes_in form (Some step) = prefixes_json (form step)

abbrev pub step_object : (announce octets : Data) → (step : ℕ) → (withdraw : Data) → Data
step_object announce octets step withdraw =
    fields ((codes "announce", announce) ∷ (codes "octets", octets) ∷ (codes "step", count step) ∷ (codes "withdraw", withdraw) ∷ [])

-- a step that a remote says
abbrev pub about_step : LabInput → (step : ℕ) → Data
about_step input step = step_object
    (prefixes_in announced_in_step (slice_get input.steps step)) (count_or_null (option_and_then octets_in_step (slice_get input.steps step))) step
    (prefixes_in withdrawn_in_step (slice_get input.steps step))

abbrev pub way_word : Way → List ℕ
way_word Home = codes "home"
way_word Remote = codes "remote"

-- the side to which a segment was on its way
abbrev pub about_link : Way → Data
about_link way = fields ((codes "to", string (way_word way)) ∷ [])

-- a segment of a remote that came astray
abbrev pub about_stray : (remote : List ℕ) → Data
about_stray remote = fields ((codes "peering", string remote) ∷ [])

abbrev pub about_group : (group : ℕ) → Data
about_group group = fields ((codes "group", count group) ∷ [])

-- ---- all

-- What an event is. Prefixes that are decided, told and heard are counted, and have none.
abbrev pub events_of : Lab → (round : ℕ) → (name : List ℕ) → Event → List Data
events_of lab round name Decide = []
events_of lab round name Tell = []
events_of lab round name Hear = []
events_of lab round name (MessageEvent p nth) = messages_json round name (peering_name lab.input p) nth (slice_get lab.sessions p)
events_of lab round name (Stray p) = event_json round name (codes "stray") (about_stray (peering_name lab.input p)) ∷ []
events_of lab round name (Admit k) = did_graft lab.input round name (Admit k) (graft_in lab.log k)
events_of lab round name (Refuse k) = did_graft lab.input round name (Refuse k) (graft_in lab.log k)
events_of lab round name (Freeze k) = did_graft lab.input round name (Freeze k) (graft_in lab.log k)
events_of lab round name (Leave k) = did_graft lab.input round name (Leave k) (graft_in lab.log k)
events_of lab round name (Land k) = did_graft lab.input round name (Land k) (graft_in lab.log k)
events_of lab round name (TurnBack k) = did_graft lab.input round name (TurnBack k) (graft_in lab.log k)
events_of lab round name (Return k) = did_graft lab.input round name (Return k) (graft_in lab.log k)
events_of lab round name (Clear k) = did_graft lab.input round name (Clear k) (graft_in lab.log k)
events_of lab round name (Confirm k) = did_graft lab.input round name (Confirm k) (graft_in lab.log k)
events_of lab round name (Order k) = did_graft lab.input round name (Order k) (graft_in lab.log k)
events_of lab round name (Say step) = event_json round name (codes "said") (about_step lab.input step) ∷ []
events_of lab round name (Lose way) = event_json round name (codes "lost") (about_link way) ∷ []
events_of lab round name (Repeat way) = event_json round name (codes "repeated") (about_link way) ∷ []
events_of lab round name (Begin group) = event_json round name (codes "began") (about_group group) ∷ []

abbrev pub happening_json : Lab → Happening → List Data
happening_json lab h = events_of lab h.round (actor_name lab.input h.actor) h.event
