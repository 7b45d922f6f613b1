-- The timeline of a run, as JSON.
use Rattle.std.specs.Prelude.{ℕ, ◌-◌, ◌==◌, ◌&&◌, List, [], ◌∷◌, ◌++◌, length, map, sum_by, Option, Some, None, codes, slice_get, if◌then◌else◌}
use Rattle.std.specs.List.{flat_map, enumerate_from}
use Rattle.serde_json.specs.Data.{Data, null, string}
use Rattle.bgp_story.specs.declared.line.Line.{Line}
use Rattle.bgp_story.specs.declared.line.Line.TheVariants.{Put, Got, Tick}
use Rattle.graft_steps.specs.declared.log.GraftEntry.{GraftEntry}
use Rattle.lab_tables.specs.declared.input.LabInput.{LabInput}
use Rattle.lab_tables.specs.declared.input.PeeringInput.{PeeringInput}
use Rattle.lab_tables.specs.declared.input.RouterInput.{RouterInput}
use Rattle.lab_report.specs.declared.lab.Lab.{Lab}
use Rattle.lab_report.specs.declared.lab.SessionView.{SessionView}
use Rattle.lab_report.specs.Report.{router_name}
use Rattle.report_json.specs.Run.{end_json, graft_json, if_there}
use Rattle.report_json.specs.Values.{count, list_of, fields, version}
use Rattle.timeline_view.specs.declared.event.Happening.{Happening}
use Rattle.timeline_view.specs.declared.event.Moment.TheVariants.{Ordered, Frozen, Left, Landed}
use Rattle.timeline_view.specs.Events.{happenings}
use Rattle.timeline_view.specs.Grafts.{round_of_graft, strays_of, updates_after, announced_in, withdrawn_in}
use Rattle.timeline_view.specs.Rounds.{count_at, is_decide, is_tell, is_hear, in_round}
use Rattle.timeline_view.specs.Sessions.{opens_put, opens_got, notices_put, notices_got, further_opens, notices, withdrawn_after}
use Rattle.view_json.specs.Events.{put_json, happening_json}

-- ---- events

-- the OPEN with which a session begins, at the router where its peering starts
abbrev pub opening_of : (holder remote : List ℕ) → Option Line → List Data
opening_of holder remote None = []
opening_of holder remote (Some (Put message)) = put_json 0 holder remote message ∷ []
opening_of holder remote (Some (Got _)) = []
opening_of holder remote (Some (Tick _)) = []

abbrev pub view_opening : (holder remote : List ℕ) → Option SessionView → List Data
view_opening holder remote None = []
view_opening holder remote (Some view) = opening_of holder remote (slice_get view.story.lines 0)

abbrev pub opening_json : LabInput → List SessionView → ℕ × PeeringInput → List Data
opening_json input sessions p = view_opening (router_name input p.1.at.0) p.1.name (slice_get sessions p.0)

-- the OPENs of all sessions, and what happened in the rounds, of which each has a mark behind it
abbrev pub events_json : Lab → List Happening → Data
events_json lab all = list_of
    (flat_map (opening_json lab.input lab.sessions) (enumerate_from 0 lab.input.peerings)
    ++ flat_map (λ m. flat_map (happening_json lab) (in_round m.0 all)) (enumerate_from 0 lab.marks))

-- ---- prefixes that were decided, told and heard

abbrev pub some_counts : (round : ℕ) → (name : List ℕ) → (decided told heard : ℕ) → Data
some_counts round name decided told heard = fields
    ((codes "decided", count decided) ∷ (codes "heard", count heard) ∷ (codes "round", count round) ∷ (codes "router", string name)
    ∷ (codes "told", count told) ∷ [])

-- nothing where there were none
abbrev pub counts_json : (round : ℕ) → (name : List ℕ) → (decided told heard : ℕ) → List Data
counts_json round name decided told heard =
    if (decided == 0) && ((told == 0) && (heard == 0)) then [] else some_counts round name decided told heard ∷ []

abbrev pub router_counts : (round : ℕ) → List Happening → ℕ × RouterInput → List Data
router_counts round here r = counts_json round r.1.name (count_at is_decide r.0 here) (count_at is_tell r.0 here) (count_at is_hear r.0 here)

-- those of each router in each round
abbrev pub tables_json : Lab → List Happening → Data
tables_json lab all =
    list_of (flat_map (λ m. flat_map (router_counts m.0 (in_round m.0 all)) (enumerate_from 0 lab.input.routers)) (enumerate_from 0 lab.marks))

-- ---- grafts

-- how many rounds one event was after another, if both were
abbrev pub span_json : Option ℕ → Option ℕ → Data
span_json (Some from) (Some to) = count (to - from)
span_json (Some from) None = null
span_json None to = null

-- the graft as the report has it; its rounds; the segments that came astray; and the UPDATEs that its remote was put, with their prefixes
abbrev pub moved_json : Lab → List Happening → GraftEntry → Data
moved_json lab all g = fields
    ((codes "announced", count (announced_in (updates_after lab g all))) ∷ (codes "astray", count (strays_of g all))
    ∷ (codes "frozen", span_json (round_of_graft Frozen g.graft all) (round_of_graft Left g.graft all)) ∷ (codes "graft", graft_json lab.input g)
    ∷ (codes "to_freeze", span_json (round_of_graft Ordered g.graft all) (round_of_graft Frozen g.graft all))
    ∷ (codes "to_landing", span_json (round_of_graft Left g.graft all) (round_of_graft Landed g.graft all))
    ∷ (codes "updates", count (length (updates_after lab g all))) ∷ (codes "withdrawn", count (withdrawn_in (updates_after lab g all))) ∷ [])

abbrev pub grafts_json : Lab → List Happening → Data
grafts_json lab all = list_of (map (moved_json lab all) lab.log)

-- ---- sessions

-- the OPENs and NOTIFICATIONs of a session over the whole run
abbrev pub session_json : (name : List ℕ) → SessionView → Data
session_json name view = fields
    ((codes "name", string name) ∷ (codes "notifications_got", count (notices_got view)) ∷ (codes "notifications_put", count (notices_put view))
    ∷ (codes "opens_got", count (opens_got view)) ∷ (codes "opens_put", count (opens_put view)) ∷ [])

abbrev pub peering_json : List SessionView → ℕ × PeeringInput → List Data
peering_json sessions p = if_there (session_json p.1.name) (slice_get sessions p.0)

abbrev pub sessions_json : Lab → Data
sessions_json lab = list_of (flat_map (peering_json lab.sessions) (enumerate_from 0 lab.input.peerings))

abbrev pub total_json : Lab → List Happening → Data
total_json lab all = fields
    ((codes "further_opens", count (sum_by further_opens lab.sessions)) ∷ (codes "notifications", count (sum_by notices lab.sessions))
    ∷ (codes "withdrawn_from_moved", count (sum_by (withdrawn_after lab all) lab.log)) ∷ [])

-- ---- the whole

-- what happened; each graft; how the run ended; each session; what routers did with prefixes; and the totals
abbrev pub timeline_of : Lab → List Happening → Data
timeline_of lab all = fields
    ((codes "events", events_json lab all) ∷ (codes "grafts", grafts_json lab all) ∷ (codes "job", string (codes "timeline"))
    ∷ (codes "result", end_json lab.input lab.end) ∷ (codes "sessions", sessions_json lab) ∷ (codes "tables", tables_json lab all)
    ∷ (codes "total", total_json lab all) ∷ (codes "version", version) ∷ [])

abbrev pub timeline_json : Lab → Data
timeline_json lab = timeline_of lab (happenings lab)
