-- All that there is at the end of a run: the tables of the routers, and each session with its tables.
use Rattle.std.specs.Prelude.{ℕ, List, [], ◌++◌, Option, Some, None, option_and_then, option_map, slice_get}
use Rattle.std.specs.FinMap as map
use Rattle.std.specs.List.{flat_map, enumerate_from}
use Rattle.bgp_story.specs.declared.line.Line.{Line}
use Rattle.bgp_story.specs.Legal.{Peering, is_wide}
use Rattle.bgp_story.specs.Readings.{heard, told}
use Rattle.bgp_story.specs.States.{state_of}
use Rattle.lab_tables.specs.declared.input.LabInput.{LabInput}
use Rattle.lab_tables.specs.declared.input.PeeringInput.{PeeringInput}
use Rattle.lab_tables.specs.declared.input.RouterInput.{RouterInput}
use Rattle.lab_report.specs.declared.lab.Lab.{Lab}
use Rattle.lab_report.specs.declared.lab.Place.{Place}
use Rattle.lab_report.specs.declared.lab.Place.TheVariants.{Held, Moving}
use Rattle.lab_report.specs.declared.lab.SessionView.{SessionView}
use Rattle.lab_report.specs.Report.{end_line}
use Rattle.lab_report.specs.Summary.{short_router_line}
use Rattle.why_view.specs.Sources.{numbered_peerings}
use Rattle.why_view.specs.Stories.{story_peering}
use Rattle.show_view.specs.Sessions.{closed_line, closing, messages_line, state_line}
use Rattle.show_view.specs.Routes.{best_in, best_line, heard_lines}
use Rattle.show_view.specs.Untold.{told_line, untold_lines}
use Rattle.show_view.specs.Links.{fault_line}
use Rattle.show_view.specs.Waiting.{waiting_line}

-- ---- routers

-- how many best routes a router has, and each of them
abbrev pub router_lines : Lab → ℕ × RouterInput → List ℕ
router_lines lab r = short_router_line lab.tables r ++ flat_map (best_line lab.input r.1.name) (best_in (slice_get lab.tables r.0))

-- ---- peerings

-- the router that holds a session, with its number
abbrev pub holder_number : Option Place → Option ℕ
holder_number None = None
holder_number (Some (Held router)) = Some router.0
holder_number (Some Moving) = None

abbrev pub holder_of : LabInput → Option Place → Option (ℕ × RouterInput)
holder_of input place = option_and_then (λ r. option_map (λ router. (r, router)) (slice_get input.routers r)) (holder_number place)

-- the session of a peering with this story: what it came to
abbrev pub session_lines : LabInput → Option Place → PeeringInput → Peering → List Line → List ℕ
session_lines input place p peering lines =
    state_line input p.name place peering lines ++ messages_line p.name (is_wide peering lines) lines ++ closed_line p.name (closing peering lines)

-- its Adj-RIB-In, each route before and after the import policy; its Adj-RIB-Out; and the best routes that aren't told on it
abbrev pub table_lines : Lab → Option (ℕ × RouterInput) → ℕ × PeeringInput → Peering → List Line → List ℕ
table_lines lab holder p peering lines =
    flat_map (heard_lines lab.input holder p lines) (map.entries (heard peering lines))
    ++ flat_map (told_line p.1.name) (map.entries (told lines))
    ++ untold_lines lab holder p (state_of lines) (told lines)

abbrev pub view_lines : Lab → Option Place → ℕ × PeeringInput → Peering → List Line → List ℕ
view_lines lab place p peering lines =
    session_lines lab.input place p.1 peering lines ++ table_lines lab (holder_of lab.input place) p peering lines

-- a peering that has no session has no lines
abbrev pub lines_of_view : Lab → ℕ × PeeringInput → Option SessionView → List ℕ
lines_of_view lab p None = []
lines_of_view lab p (Some view) = view_lines lab (slice_get lab.placement p.0) p (story_peering lab.input p.1) view.story.lines

abbrev pub peering_lines : Lab → ℕ × PeeringInput → List ℕ
peering_lines lab p = lines_of_view lab p (slice_get lab.sessions p.0)

-- ---- the whole

-- how the run ended, and what it was waiting for; the routers; the peerings; and the planned faults whose segments never came
abbrev pub show_text : Lab → List ℕ
show_text lab = end_line lab.input lab.end ++ waiting_line lab lab.end
    ++ flat_map (router_lines lab) (enumerate_from 0 lab.input.routers)
    ++ flat_map (peering_lines lab) (numbered_peerings lab.input)
    ++ flat_map (fault_line lab.input lab.journal) lab.input.faults
