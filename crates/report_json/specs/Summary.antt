-- The summary of a run, as JSON.
use Rattle.std.specs.Prelude.{ℕ, List, [], ◌∷◌, length, count_by, map, Option, codes, slice_get}
use Rattle.std.specs.List.{flat_map, enumerate_from}
use Rattle.serde_json.specs.Data.{Data, boolean, string}
use Rattle.lab_tables.specs.declared.input.LabInput.{LabInput}
use Rattle.lab_tables.specs.declared.input.PeeringInput.{PeeringInput}
use Rattle.lab_tables.specs.declared.input.RouterInput.{RouterInput}
use Rattle.lab_report.specs.declared.lab.Lab.{Lab}
use Rattle.lab_report.specs.declared.lab.Place.{Place}
use Rattle.lab_report.specs.declared.lab.RouterTable.{RouterTable}
use Rattle.lab_report.specs.declared.lab.SessionView.{SessionView}
use Rattle.lab_report.specs.Summary.{prefixes_announced, was_accepted, was_refused, best_count}
use Rattle.report_json.specs.Run.{end_json, holder_json, is_moving, if_there}
use Rattle.report_json.specs.Values.{count, list_of, fields, version}

abbrev pub counts_json : Lab → Data
counts_json lab = fields
    ((codes "accepted", count (count_by was_accepted lab.log)) ∷ (codes "grafts", count (length lab.log))
    ∷ (codes "peerings", count (length lab.input.peerings)) ∷ (codes "prefixes", count (length (prefixes_announced lab.input)))
    ∷ (codes "refused", count (count_by was_refused lab.log)) ∷ (codes "routers", count (length lab.input.routers)) ∷ [])

-- a peering's name, the place of its session, and how many prefixes were heard and told on it
abbrev pub short_session_json : LabInput → (name : List ℕ) → Option Place → SessionView → Data
short_session_json input name place view = fields
    ((codes "at", holder_json input place) ∷ (codes "heard", count view.heard) ∷ (codes "moving", boolean (is_moving place))
    ∷ (codes "name", string name) ∷ (codes "told", count view.told) ∷ [])

abbrev pub short_peering_json : LabInput → List SessionView → List Place → ℕ × PeeringInput → List Data
short_peering_json input sessions placement p = if_there (short_session_json input p.1.name (slice_get placement p.0)) (slice_get sessions p.0)

-- a router's name, and how many best routes it has
abbrev pub short_router_json : List RouterTable → ℕ × RouterInput → Data
short_router_json tables r = fields ((codes "best", count (best_count (slice_get tables r.0))) ∷ (codes "name", string r.1.name) ∷ [])

-- ---- the whole

abbrev pub short_peerings_json : Lab → Data
short_peerings_json lab = list_of (flat_map (short_peering_json lab.input lab.sessions lab.placement) (enumerate_from 0 lab.input.peerings))

abbrev pub short_routers_json : Lab → Data
short_routers_json lab = list_of (map (short_router_json lab.tables) (enumerate_from 0 lab.input.routers))

-- how the run ended, counts, where each session is, and how many best routes each router has
abbrev pub summary_json : Lab → Data
summary_json lab = fields
    ((codes "counts", counts_json lab) ∷ (codes "job", string (codes "drill")) ∷ (codes "peerings", short_peerings_json lab)
    ∷ (codes "result", end_json lab.input lab.end) ∷ (codes "routers", short_routers_json lab) ∷ (codes "version", version) ∷ [])
