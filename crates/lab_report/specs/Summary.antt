-- The summary of a run, as a text: how it ended, counts, where each session is, and how many best routes each router has.
use Rattle.std.specs.Prelude.{ℕ, List, [], ◌++◌, Bool, true, false, length, count_by, codes, decimal, Option, Some, None, slice_get}
use Rattle.std.specs.List.{flat_map, enumerate_from}
use Rattle.bgp_types.specs.Prefixes.{PrefixValue, once_after}
use Rattle.graft_steps.specs.declared.log.GraftEntry.{GraftEntry}
use Rattle.graft_steps.specs.declared.log.GraftStage.{GraftStage}
use Rattle.graft_steps.specs.declared.log.GraftStage.TheVariants.{Ended}
use Rattle.graft_steps.specs.declared.refusal.Outcome.TheVariants.{Accepted, Refused}
use Rattle.lab_tables.specs.declared.input.LabInput.{LabInput}
use Rattle.lab_tables.specs.declared.input.RouterInput.{RouterInput}
use Rattle.lab_tables.specs.declared.input.PeeringInput.{PeeringInput}
use Rattle.lab_tables.specs.declared.input.Step.{Step}
use Rattle.lab_tables.specs.declared.input.Step.TheVariants.{Announce}
use Rattle.lab_report.specs.declared.lab.Lab.{Lab}
use Rattle.lab_report.specs.declared.lab.Place.{Place}
use Rattle.lab_report.specs.declared.lab.RouterTable.{RouterTable}
use Rattle.lab_report.specs.declared.lab.SessionView.{SessionView}
use Rattle.lab_report.specs.Report.{end_line, line_end, place_text, place_words}

-- ---- counts

abbrev pub announced_in_step : Step → List PrefixValue
announced_in_step (Announce peering prefixes attrs) = prefixes
announced_in_step step = []

-- the prefixes that remotes announce by the script, each once
abbrev pub prefixes_announced : LabInput → List PrefixValue
prefixes_announced input = once_after [] (flat_map announced_in_step input.steps)

abbrev pub is_accepted : GraftStage → Bool
is_accepted (Ended Accepted) = true
is_accepted stage = false

abbrev pub is_refused : GraftStage → Bool
is_refused (Ended (Refused refusal)) = true
is_refused stage = false

abbrev pub was_accepted : GraftEntry → Bool
was_accepted entry = is_accepted entry.stage

abbrev pub was_refused : GraftEntry → Bool
was_refused entry = is_refused entry.stage

abbrev pub counts_line : Lab → List ℕ
counts_line lab = codes "routers " ++ decimal (length lab.input.routers) ++ codes " peerings " ++ decimal (length lab.input.peerings)
    ++ codes " prefixes " ++ decimal (length (prefixes_announced lab.input)) ++ codes " grafts " ++ decimal (length lab.log) ++ line_end

abbrev pub outcomes_line : List GraftEntry → List ℕ
outcomes_line log = codes "accepted " ++ decimal (count_by was_accepted log) ++ codes " refused " ++ decimal (count_by was_refused log) ++ line_end

-- ---- peerings and routers

abbrev pub sizes_words : SessionView → List ℕ
sizes_words view = codes " heard " ++ decimal view.heard ++ codes " told " ++ decimal view.told ++ line_end

-- a peering that has no session has no line
abbrev pub place_line : Option SessionView → List ℕ → List ℕ
place_line None words = []
place_line (Some view) words = words ++ sizes_words view

abbrev pub short_peering_line : LabInput → List SessionView → List Place → ℕ × PeeringInput → List ℕ
short_peering_line input sessions placement p = place_line (slice_get sessions p.0) (place_words p.1.name (place_text input (slice_get placement p.0)))

abbrev pub best_count : Option RouterTable → ℕ
best_count None = 0
best_count (Some table) = length table.best

abbrev pub short_router_line : List RouterTable → ℕ × RouterInput → List ℕ
short_router_line tables r = codes "router " ++ r.1.name ++ codes " best " ++ decimal (best_count (slice_get tables r.0)) ++ line_end

-- ---- the whole

abbrev pub summary_text : Lab → List ℕ
summary_text lab = end_line lab.input lab.end ++ counts_line lab ++ outcomes_line lab.log
    ++ flat_map (short_peering_line lab.input lab.sessions lab.placement) (enumerate_from 0 lab.input.peerings)
    ++ flat_map (short_router_line lab.tables) (enumerate_from 0 lab.input.routers)
