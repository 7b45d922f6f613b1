-- All that there is at the end of a run, as JSON.
use Rattle.std.specs.Prelude.{ℕ, Bool, List, [], ◌∷◌, length, map, Option, codes, nat_lt, slice_get, if◌then◌else◌}
use Rattle.std.specs.FinMap as table
use Rattle.std.specs.List.{flat_map, enumerate_from}
use Rattle.serde_json.specs.Data.{Data, null, boolean, string}
use Rattle.link_bag.specs.declared.plan.Fault.{Fault}
use Rattle.ring_net.specs.declared.entry.JournalEntry.{JournalEntry}
use Rattle.bgp_story.specs.declared.line.Line.{Line}
use Rattle.bgp_story.specs.Legal.{Peering}
use Rattle.bgp_story.specs.Readings.{heard, told}
use Rattle.bgp_story.specs.States.{state_of}
use Rattle.lab_tables.specs.declared.input.LabInput.{LabInput}
use Rattle.lab_tables.specs.declared.input.PeeringInput.{PeeringInput}
use Rattle.lab_tables.specs.declared.input.RouterInput.{RouterInput}
use Rattle.lab_report.specs.declared.lab.Lab.{Lab}
use Rattle.lab_report.specs.declared.lab.Place.{Place}
use Rattle.lab_report.specs.declared.lab.RunEnd.{RunEnd}
use Rattle.lab_report.specs.declared.lab.RunEnd.TheVariants.{Settled, Unsettled, StreamFull, JournalFull}
use Rattle.lab_report.specs.Report.{peering_name}
use Rattle.why_view.specs.Sources.{numbered_peerings}
use Rattle.why_view.specs.Stories.{story_peering}
use Rattle.show_view.specs.Links.{kind_text, segments_on, way_text}
use Rattle.show_view.specs.Routes.{best_in}
use Rattle.show_view.specs.Show.{holder_of}
use Rattle.show_view.specs.Waiting.{pending_words}
use Rattle.report_json.specs.Run.{end_json, holder_json, if_there, is_moving}
use Rattle.report_json.specs.Values.{count, list_of, fields, version}
use Rattle.show_json.specs.Routes.{best_json, entry_json, heard_json, all_untold}
use Rattle.show_json.specs.Sessions.{session_json}

-- ---- routers

-- a router's name, and its best routes with all attributes
abbrev pub router_json : Lab → ℕ × RouterInput → Data
router_json lab r = fields
    ((codes "best", list_of (map (best_json lab.input) (best_in (slice_get lab.tables r.0)))) ∷ (codes "name", string r.1.name) ∷ [])

-- ---- peerings

abbrev pub routes_json : (heard told untold : Data) → Data
routes_json heard told untold = fields ((codes "heard", heard) ∷ (codes "told", told) ∷ (codes "untold", untold) ∷ [])

-- its Adj-RIB-In, each route before and after the import policy; its Adj-RIB-Out; and the best routes that aren't told on it
abbrev pub tables_json : Lab → Option (ℕ × RouterInput) → ℕ × PeeringInput → Peering → List Line → Data
tables_json lab holder p peering lines = routes_json
    (list_of (map (heard_json lab.input holder p lines) (table.entries (heard peering lines))))
    (list_of (map entry_json (table.entries (told lines))))
    (list_of (all_untold lab holder p (state_of lines) (told lines)))

abbrev pub view_object : (at : Data) → (moving : Bool) → (name : List ℕ) → (routes session : Data) → Data
view_object at moving name routes session = fields
    ((codes "at", at) ∷ (codes "moving", boolean moving) ∷ (codes "name", string name) ∷ (codes "routes", routes) ∷ (codes "session", session) ∷ [])

-- a peering's name, the place of its session, what it came to, and its routes
abbrev pub view_json : Lab → Option Place → ℕ × PeeringInput → Peering → List Line → Data
view_json lab place p peering lines = view_object
    (holder_json lab.input place) (is_moving place) p.1.name (tables_json lab (holder_of lab.input place) p peering lines) (session_json peering lines)

-- a peering that has no session is left out
abbrev pub peering_json : Lab → ℕ × PeeringInput → List Data
peering_json lab p =
    if_there (λ view. view_json lab (slice_get lab.placement p.0) p (story_peering lab.input p.1) view.story.lines) (slice_get lab.sessions p.0)

-- ---- faults

abbrev pub never_came : LabInput → Fault → Data
never_came input fault = fields
    ((codes "kind", string (kind_text fault.kind)) ∷ (codes "peering", string (peering_name input fault.peering.0))
    ∷ (codes "segment", count fault.segment) ∷ (codes "way", string (way_text fault.way)) ∷ [])

-- a planned fault whose segment never came; segments are counted from 1
abbrev pub fault_json : LabInput → List JournalEntry → Fault → List Data
fault_json input journal fault =
    if nat_lt (segments_on (length input.routers) journal fault.peering.0 fault.way) fault.segment then never_came input fault ∷ [] else []

-- ---- the whole

-- what an unsettled run was waiting for, in words
abbrev pub waiting_json : Lab → RunEnd → Data
waiting_json lab Settled = null
waiting_json lab (Unsettled step rounds pending) = string (pending_words lab pending)
waiting_json lab (StreamFull peering length) = null
waiting_json lab (JournalFull events) = null

-- the planned faults whose segments never came; the peerings; how the run ended; the routers; and what it was waiting for
abbrev pub show_json : Lab → Data
show_json lab = fields
    ((codes "faults", list_of (flat_map (fault_json lab.input lab.journal) lab.input.faults)) ∷ (codes "job", string (codes "show"))
    ∷ (codes "peerings", list_of (flat_map (peering_json lab) (numbered_peerings lab.input))) ∷ (codes "result", end_json lab.input lab.end)
    ∷ (codes "routers", list_of (map (router_json lab) (enumerate_from 0 lab.input.routers))) ∷ (codes "version", version)
    ∷ (codes "waiting", waiting_json lab lab.end) ∷ [])
