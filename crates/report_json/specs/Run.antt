-- The report of a run, as JSON.
use Rattle.std.specs.Prelude.{ℕ, Bool, true, false, List, [], ◌∷◌, map, Option, Some, None, codes, slice_get}
use Rattle.std.specs.List.{flat_map, enumerate_from}
use Rattle.serde_json.specs.Data.{Data, null, boolean, string}
use Rattle.graft_edge.specs.declared.ids.RouterId.{RouterId}
use Rattle.bgp_types.specs.declared.path.PathPart.{PathPart}
use Rattle.bgp_types.specs.declared.path.PathPart.TheVariants.{Set, Sequence}
use Rattle.bgp_types.specs.declared.rank.From.{From}
use Rattle.bgp_types.specs.declared.rank.From.TheVariants.{Own, Peering as FromPeering, Router}
use Rattle.bgp_types.specs.Texts.{prefix_text}
use Rattle.bgp_story.specs.States.{state_of}
use Rattle.graft_steps.specs.declared.log.GraftEntry.{GraftEntry}
use Rattle.graft_steps.specs.declared.log.GraftStage.{GraftStage}
use Rattle.graft_steps.specs.declared.log.GraftStage.TheVariants.{Waiting, Issued, Ended}
use Rattle.graft_steps.specs.declared.refusal.Outcome.TheVariants.{Accepted, Refused}
use Rattle.graft_steps.specs.declared.refusal.Refusal.{Refusal}
use Rattle.graft_steps.specs.declared.refusal.Refusal.TheVariants.{SameRouter, NotEstablished, HoldTooShort, RouterFull, PolicyMissing, NoTarget}
use Rattle.lab_tables.specs.declared.input.LabInput.{LabInput}
use Rattle.lab_tables.specs.declared.input.PeeringInput.{PeeringInput}
use Rattle.lab_tables.specs.declared.input.RouterInput.{RouterInput}
use Rattle.lab_report.specs.declared.lab.BestEntry.{BestEntry}
use Rattle.lab_report.specs.declared.lab.Lab.{Lab}
use Rattle.lab_report.specs.declared.lab.Place.{Place}
use Rattle.lab_report.specs.declared.lab.Place.TheVariants.{Held, Moving}
use Rattle.lab_report.specs.declared.lab.RouterTable.{RouterTable}
use Rattle.lab_report.specs.declared.lab.RunEnd.{RunEnd}
use Rattle.lab_report.specs.declared.lab.RunEnd.TheVariants.{Settled, Unsettled, StreamFull, JournalFull}
use Rattle.lab_report.specs.declared.lab.SessionView.{SessionView}
use Rattle.lab_report.specs.Report.{router_name, peering_name, state_text}
use Rattle.report_json.specs.Values.{count, list_of, fields, version}

-- ---- how the run ended

abbrev pub settled_json : Data
settled_json = fields ((codes "end", string (codes "settled")) ∷ [])

-- the rounds of the settle of this number, from 1, were not enough
abbrev pub unsettled_json : (step rounds : ℕ) → Data
unsettled_json step rounds = fields ((codes "end", string (codes "unsettled")) ∷ (codes "rounds", count rounds) ∷ (codes "step", count step) ∷ [])

abbrev pub stream_full_json : (peering : List ℕ) → (length : ℕ) → Data
stream_full_json peering length =
    fields ((codes "end", string (codes "stream-full")) ∷ (codes "length", count length) ∷ (codes "peering", string peering) ∷ [])

abbrev pub journal_full_json : (events : ℕ) → Data
journal_full_json events = fields ((codes "end", string (codes "journal-full")) ∷ (codes "events", count events) ∷ [])

abbrev pub end_json : LabInput → RunEnd → Data
end_json input Settled = settled_json
end_json input (Unsettled step rounds pending) = unsettled_json step rounds
end_json input (StreamFull peering length) = stream_full_json (peering_name input peering.0) length
end_json input (JournalFull events) = journal_full_json events

-- ---- routers

abbrev pub ases_json : List ℕ → List Data
ases_json ases = map count ases

-- the ASes of a sequence, one by one; a set is an array of its own
abbrev pub part_json : PathPart → List Data
part_json (Sequence ases) = ases_json ases
part_json (Set ases) = list_of (ases_json ases) ∷ []

abbrev pub path_json : List PathPart → Data
path_json path = list_of (flat_map part_json path)

abbrev pub from_kind : From → List ℕ
from_kind Own = codes "own"
from_kind (FromPeering p) = codes "peering"
from_kind (Router r) = codes "router"

abbrev pub from_name : LabInput → From → Data
from_name input Own = null
from_name input (FromPeering p) = string (peering_name input p.0)
from_name input (Router r) = string (router_name input r.0)

-- where a route comes from
abbrev pub from_json : LabInput → From → Data
from_json input from = fields ((codes "kind", string (from_kind from)) ∷ (codes "name", from_name input from) ∷ [])

-- a best route: its prefix, where it comes from, its preference and its path
abbrev pub best_json : LabInput → BestEntry → Data
best_json input b = fields
    ((codes "from", from_json input b.from) ∷ (codes "path", path_json b.route.attrs.path) ∷ (codes "pref", count b.route.pref)
    ∷ (codes "prefix", string (prefix_text b.prefix)) ∷ [])

abbrev pub table_json : LabInput → Option RouterTable → Data
table_json input None = list_of []
table_json input (Some t) = list_of (map (best_json input) t.best)

-- a router's name, and its best routes
abbrev pub router_json : LabInput → List RouterTable → ℕ × RouterInput → Data
router_json input tables r = fields ((codes "best", table_json input (slice_get tables r.0)) ∷ (codes "name", string r.1.name) ∷ [])

-- ---- peerings

-- the router that holds a session, unless it is on its way
abbrev pub holder_json : LabInput → Option Place → Data
holder_json input None = null
holder_json input (Some (Held router)) = string (router_name input router.0)
holder_json input (Some Moving) = null

abbrev pub is_moving : Option Place → Bool
is_moving None = false
is_moving (Some (Held router)) = false
is_moving (Some Moving) = true

-- a peering's name, the place and the state of its session, and how many prefixes were heard and told on it
abbrev pub session_json : LabInput → (name : List ℕ) → Option Place → SessionView → Data
session_json input name place view = fields
    ((codes "at", holder_json input place) ∷ (codes "heard", count view.heard) ∷ (codes "moving", boolean (is_moving place))
    ∷ (codes "name", string name) ∷ (codes "state", string (state_text (state_of view.story.lines))) ∷ (codes "told", count view.told) ∷ [])

-- a peering that has no session is left out
abbrev pub if_there : (SessionView → Data) → Option SessionView → List Data
if_there form None = []
if_there form (Some view) = form view ∷ []

abbrev pub peering_json : LabInput → List SessionView → List Place → ℕ × PeeringInput → List Data
peering_json input sessions placement p = if_there (session_json input p.1.name (slice_get placement p.0)) (slice_get sessions p.0)

-- ---- grafts

abbrev pub reason_text : Refusal → List ℕ
reason_text SameRouter = codes "SameRouter"
reason_text (NotEstablished state) = codes "NotEstablished"
reason_text (HoldTooShort hold) = codes "HoldTooShort"
reason_text (RouterFull room) = codes "RouterFull"
reason_text (PolicyMissing name) = codes "PolicyMissing"
reason_text NoTarget = codes "NoTarget"

-- the state, the hold time, the number of places or the policy's name
abbrev pub detail_json : Refusal → Data
detail_json SameRouter = null
detail_json (NotEstablished state) = string (state_text state)
detail_json (HoldTooShort hold) = count hold
detail_json (RouterFull room) = count room
detail_json (PolicyMissing name) = string name
detail_json NoTarget = null

abbrev pub refusal_json : Refusal → Data
refusal_json refusal = fields ((codes "detail", detail_json refusal) ∷ (codes "reason", string (reason_text refusal)) ∷ [])

abbrev pub stage_word : GraftStage → List ℕ
stage_word Waiting = codes "waiting"
stage_word Issued = codes "open"
stage_word (Ended Accepted) = codes "accepted"
stage_word (Ended (Refused refusal)) = codes "refused"

-- why a graft was refused, if it was
abbrev pub stage_refusal : GraftStage → Data
stage_refusal Waiting = null
stage_refusal Issued = null
stage_refusal (Ended Accepted) = null
stage_refusal (Ended (Refused refusal)) = refusal_json refusal

-- the router at which a graft was ordered, if it was
abbrev pub source_json : LabInput → Option RouterId → Data
source_json input None = null
source_json input (Some router) = string (router_name input router.0)

abbrev pub graft_json : LabInput → GraftEntry → Data
graft_json input g = fields
    ((codes "graft", count g.graft) ∷ (codes "peering", string (peering_name input g.peering.0)) ∷ (codes "refusal", stage_refusal g.stage)
    ∷ (codes "result", string (stage_word g.stage)) ∷ (codes "source", source_json input g.source)
    ∷ (codes "target", string (router_name input g.target.0)) ∷ [])

-- ---- the whole

abbrev pub routers_json : Lab → Data
routers_json lab = list_of (map (router_json lab.input lab.tables) (enumerate_from 0 lab.input.routers))

abbrev pub peerings_json : Lab → Data
peerings_json lab = list_of (flat_map (peering_json lab.input lab.sessions lab.placement) (enumerate_from 0 lab.input.peerings))

abbrev pub grafts_json : Lab → Data
grafts_json lab = list_of (map (graft_json lab.input) lab.log)

-- how the run ended, each router with its best routes, each peering, each graft, and where packets go
abbrev pub report_json : Lab → (traces : Data) → Data
report_json lab traces = fields
    ((codes "grafts", grafts_json lab) ∷ (codes "job", string (codes "run")) ∷ (codes "peerings", peerings_json lab)
    ∷ (codes "result", end_json lab.input lab.end) ∷ (codes "routers", routers_json lab) ∷ (codes "traces", traces)
    ∷ (codes "version", version) ∷ [])
