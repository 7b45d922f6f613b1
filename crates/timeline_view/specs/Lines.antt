-- The lines of what happened.
use Rattle.std.specs.Prelude.{ℕ, ◌-◌, List, [], ◌++◌, length, Option, Some, None, slice_get, codes, decimal}
use Rattle.tcp_seq.specs.declared.segment.Way.{Way}
use Rattle.tcp_seq.specs.declared.segment.Way.TheVariants.{Home, Remote}
use Rattle.graft_steps.specs.declared.log.GraftEntry.{GraftEntry}
use Rattle.graft_steps.specs.declared.log.GraftStage.{GraftStage}
use Rattle.graft_steps.specs.declared.log.GraftStage.TheVariants.{Waiting, Issued, Ended}
use Rattle.graft_steps.specs.declared.refusal.Outcome.TheVariants.{Accepted, Refused}
use Rattle.lab_tables.specs.declared.input.LabInput.{LabInput}
use Rattle.lab_tables.specs.declared.input.PeeringInput.{PeeringInput}
use Rattle.lab_tables.specs.declared.input.RouterInput.{RouterInput}
use Rattle.lab_tables.specs.declared.input.Step.{Step}
use Rattle.lab_tables.specs.declared.input.Step.TheVariants as steps
use Rattle.lab_report.specs.declared.lab.Lab.{Lab}
use Rattle.lab_report.specs.Report.{router_name, peering_name, source_text, refusal_text, line_end}
use Rattle.message_words.specs.Updates.{prefixes_words}
use Rattle.timeline_view.specs.declared.event.Event.{Event}
use Rattle.timeline_view.specs.declared.event.Event.TheVariants.{Decide, Tell, Hear, Message, Stray, Admit, Refuse, Freeze, Leave, Land, TurnBack}
use Rattle.timeline_view.specs.declared.event.Event.TheVariants.{Return, Clear, Confirm, Say, Lose, Repeat, Order, Begin}
use Rattle.timeline_view.specs.declared.event.Happening.{Happening}
use Rattle.timeline_view.specs.Messages.{session_lines}
use Rattle.timeline_view.specs.Numbers.{graft_in}

-- ---- names

abbrev pub remote_or_operator : Option PeeringInput → List ℕ
remote_or_operator None = codes "operator"
remote_or_operator (Some p) = p.name

abbrev pub router_or : Option RouterInput → List ℕ → List ℕ
router_or None other = other
router_or (Some r) other = r.name

-- routers come first, then the remotes by their peerings, then the operator
abbrev pub actor_name : LabInput → ℕ → List ℕ
actor_name input actor =
    router_or (slice_get input.routers actor) (remote_or_operator (slice_get input.peerings (actor - length input.routers)))

-- the remote, the source and the target of a graft
abbrev pub remote_of : LabInput → GraftEntry → List ℕ
remote_of input g = peering_name input g.peering.0

abbrev pub source_of : LabInput → GraftEntry → List ℕ
source_of input g = source_text input g.source

abbrev pub target_of : LabInput → GraftEntry → List ℕ
target_of input g = router_name input g.target.0

-- ---- grafts

-- why a graft was refused
abbrev pub reason_words : GraftStage → List ℕ
reason_words Waiting = []
reason_words Issued = []
reason_words (Ended Accepted) = []
reason_words (Ended (Refused refusal)) = codes " " ++ refusal_text refusal

-- what a router or the operator did with the session of a graft
abbrev pub graft_words : LabInput → GraftEntry → Event → List ℕ
graft_words input g (Order _) = codes "ordered graft " ++ decimal g.graft ++ codes " " ++ remote_of input g
    ++ codes " from " ++ source_of input g ++ codes " to " ++ target_of input g
graft_words input g (Admit _) = codes "admitted " ++ remote_of input g ++ codes " to " ++ target_of input g
graft_words input g (Refuse _) = codes "refused " ++ remote_of input g ++ codes " to " ++ target_of input g ++ reason_words g.stage
graft_words input g (Freeze _) = codes "froze " ++ remote_of input g
graft_words input g (Leave _) = codes "sent " ++ remote_of input g ++ codes " to " ++ target_of input g
graft_words input g (Land _) = codes "landed " ++ remote_of input g ++ codes " from " ++ source_of input g
graft_words input g (TurnBack _) = codes "turned back " ++ remote_of input g ++ codes " to " ++ source_of input g ++ reason_words g.stage
graft_words input g (Return _) = codes "took back " ++ remote_of input g ++ codes " from " ++ target_of input g
graft_words input g (Clear _) = codes "cleared " ++ remote_of input g
graft_words input g (Confirm _) = codes "confirmed " ++ remote_of input g ++ codes " to " ++ source_of input g
graft_words input g event = []

-- ---- remotes and links

abbrev pub step_words : Option Step → List ℕ
step_words None = []
step_words (Some (steps.Announce peering prefixes attrs)) = prefixes_words (codes "announce") prefixes
step_words (Some (steps.Withdraw peering prefixes)) = prefixes_words (codes "withdraw") prefixes
step_words (Some (steps.Raw peering bytes)) = codes " raw " ++ decimal (length bytes) ++ codes " octets"
step_words (Some (steps.Graft peering target)) = []
step_words (Some (steps.Settle rounds least)) = []
step_words (Some (steps.Evacuate router)) = []

abbrev pub say_words : LabInput → (step : ℕ) → List ℕ
say_words input step = codes "said step[" ++ decimal step ++ codes "]" ++ step_words (slice_get input.steps step)

abbrev pub way_words : Way → List ℕ
way_words Home = codes "a segment to home"
way_words Remote = codes "a segment to the remote"

-- ---- events

-- the line of what an actor did
abbrev pub did : (round : ℕ) → (name words : List ℕ) → List ℕ
did round name words = codes "round " ++ decimal round ++ codes "  " ++ name ++ codes "  " ++ words ++ line_end

-- the same of a graft that the log has
abbrev pub did_graft : LabInput → (round : ℕ) → (name : List ℕ) → Event → Option GraftEntry → List ℕ
did_graft input round name event None = []
did_graft input round name event (Some g) = did round name (graft_words input g event)

-- The lines of an event. Prefixes that are decided, told and heard are counted, and have none.
abbrev pub lines_of : Lab → (round : ℕ) → (name : List ℕ) → Event → List ℕ
lines_of lab round name Decide = []
lines_of lab round name Tell = []
lines_of lab round name Hear = []
lines_of lab round name (Message p nth) = session_lines round name (peering_name lab.input p) nth (slice_get lab.sessions p)
lines_of lab round name (Stray p) = did round name (codes "stray segment of " ++ peering_name lab.input p)
lines_of lab round name (Admit k) = did_graft lab.input round name (Admit k) (graft_in lab.log k)
lines_of lab round name (Refuse k) = did_graft lab.input round name (Refuse k) (graft_in lab.log k)
lines_of lab round name (Freeze k) = did_graft lab.input round name (Freeze k) (graft_in lab.log k)
lines_of lab round name (Leave k) = did_graft lab.input round name (Leave k) (graft_in lab.log k)
lines_of lab round name (Land k) = did_graft lab.input round name (Land k) (graft_in lab.log k)
lines_of lab round name (TurnBack k) = did_graft lab.input round name (TurnBack k) (graft_in lab.log k)
lines_of lab round name (Return k) = did_graft lab.input round name (Return k) (graft_in lab.log k)
lines_of lab round name (Clear k) = did_graft lab.input round name (Clear k) (graft_in lab.log k)
lines_of lab round name (Confirm k) = did_graft lab.input round name (Confirm k) (graft_in lab.log k)
lines_of lab round name (Order k) = did_graft lab.input round name (Order k) (graft_in lab.log k)
lines_of lab round name (Say step) = did round name (say_words lab.input step)
lines_of lab round name (Lose way) = did round name (codes "link lost " ++ way_words way)
lines_of lab round name (Repeat way) = did round name (codes "link repeated " ++ way_words way)
lines_of lab round name (Begin group) = did round name (codes "began group " ++ decimal group)

abbrev pub happening_lines : Lab → Happening → List ℕ
happening_lines lab h = lines_of lab h.round (actor_name lab.input h.actor) h.event
