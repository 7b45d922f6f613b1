-- What an unsettled run was waiting for: the first thing that was left to do, in words.
use Rattle.std.specs.Prelude.{ℕ, ◌-◌, Bool, true, false, ◌&&◌, nat_lt, List, [], ◌++◌, length, Option, Some, None, slice_get, codes, decimal}
use Rattle.bgp_types.specs.declared.message.SessionState.{SessionState}
use Rattle.bgp_types.specs.declared.message.SessionState.TheVariants.{OpenSent, OpenConfirm, Established, Closed}
use Rattle.bgp_story.specs.declared.line.Line.{Line}
use Rattle.bgp_story.specs.Legal.{Peering, is_wide}
use Rattle.bgp_story.specs.States.{state_of}
use Rattle.graft_steps.specs.declared.rest.Pending.{Pending}
use Rattle.graft_steps.specs.declared.rest.Pending.TheVariants.{Script, Graft, Channel, Bag, Stream, Dirty, DueIn, DueOut}
use Rattle.lab_tables.specs.declared.input.LabInput.{LabInput}
use Rattle.lab_tables.specs.declared.input.PeeringInput.{PeeringInput}
use Rattle.lab_tables.specs.declared.input.RouterInput.{RouterInput}
use Rattle.lab_report.specs.declared.lab.FarView.{FarView}
use Rattle.lab_report.specs.declared.lab.Lab.{Lab}
use Rattle.lab_report.specs.declared.lab.RunEnd.{RunEnd}
use Rattle.lab_report.specs.declared.lab.RunEnd.TheVariants.{Settled, Unsettled, StreamFull, JournalFull}
use Rattle.lab_report.specs.declared.lab.SessionView.{SessionView}
use Rattle.lab_report.specs.Report.{line_end, peering_name, router_name}
use Rattle.why_view.specs.Stories.{story_peering}
use Rattle.show_view.specs.Sessions.{received_octets, sent_octets}

-- ---- actors

abbrev pub actor_name : Option RouterInput → Option PeeringInput → List ℕ
actor_name (Some router) peering = codes "router " ++ router.name
actor_name None (Some peering) = codes "far side " ++ peering.name
actor_name None None = codes "operator"

-- Routers come first, then the far sides of the peerings, then the operator.
abbrev pub actor_words : LabInput → ℕ → List ℕ
actor_words input n = actor_name (slice_get input.routers n) (slice_get input.peerings (n - length input.routers))

-- ---- streams

abbrev pub is_open : SessionState → Bool
is_open OpenSent = true
is_open OpenConfirm = true
is_open Established = true
is_open Closed = false

-- a session that reads on has read less than the remote said
abbrev pub is_unread : List Line → FarView → Bool
is_unread lines far = is_open (state_of lines) && nat_lt (received_octets lines) (length far.said)

-- the session put more than the remote received
abbrev pub is_unreceived : Peering → List Line → FarView → Bool
is_unreceived p lines far = nat_lt (length far.received) (sent_octets (is_wide p lines) lines)

abbrev pub ways_words : (home remote : Bool) → List ℕ → List ℕ
ways_words true true name = codes "octets of " ++ name ++ codes " both ways"
ways_words true false name = codes "octets of " ++ name ++ codes " towards home"
ways_words false true name = codes "octets of " ++ name ++ codes " towards the remote"
ways_words false false name = codes "acknowledgements of " ++ name

abbrev pub stream_words : LabInput → (name : List ℕ) → Option PeeringInput → Option SessionView → Option FarView → List ℕ
stream_words input name None view far = codes "octets of " ++ name
stream_words input name (Some p) None far = codes "octets of " ++ name
stream_words input name (Some p) (Some view) None = codes "octets of " ++ name
stream_words input name (Some p) (Some view) (Some far) =
    ways_words (is_unread view.story.lines far) (is_unreceived (story_peering input p) view.story.lines far) name

-- ---- the whole

abbrev pub pending_words : Lab → Pending → List ℕ
pending_words lab Script = codes "a step of the script"
pending_words lab (Graft k) = codes "graft " ++ decimal k
pending_words lab (Channel a b) = codes "an item from " ++ actor_words lab.input a ++ codes " to " ++ actor_words lab.input b
pending_words lab (Bag p) = codes "a segment on the link of " ++ peering_name lab.input p.0
pending_words lab (Stream p) =
    stream_words lab.input (peering_name lab.input p.0) (slice_get lab.input.peerings p.0) (slice_get lab.sessions p.0) (slice_get lab.far p.0)
pending_words lab (Dirty r) = codes "a decision of " ++ router_name lab.input r.0
pending_words lab (DueIn r q) = codes "a route that " ++ router_name lab.input r.0 ++ codes " is to tell " ++ router_name lab.input q.0
pending_words lab (DueOut p) = codes "an UPDATE to " ++ peering_name lab.input p.0

-- a run that ended otherwise has no such line
abbrev pub waiting_line : Lab → RunEnd → List ℕ
waiting_line lab Settled = []
waiting_line lab (Unsettled step rounds pending) = codes "waiting: " ++ pending_words lab pending ++ line_end
waiting_line lab (StreamFull peering length) = []
waiting_line lab (JournalFull events) = []
