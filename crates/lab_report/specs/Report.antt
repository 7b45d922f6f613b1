-- The report of a run, as a text.
use Rattle.std.specs.Prelude.{ℕ, List, [], ◌∷◌, ◌++◌, map, Option, Some, None, codes, decimal, slice_get, unwrap_or}
use Rattle.std.specs.List.{flat_map, enumerate_from}
use Rattle.graft_edge.specs.declared.ids.RouterId.{RouterId}
use Rattle.bgp_types.specs.declared.message.SessionState.{SessionState}
use Rattle.bgp_types.specs.declared.message.SessionState.TheVariants.{OpenSent, OpenConfirm, Established, Closed}
use Rattle.bgp_types.specs.declared.path.PathPart.{PathPart}
use Rattle.bgp_types.specs.declared.path.PathPart.TheVariants.{Set, Sequence}
use Rattle.bgp_types.specs.declared.rank.From.{From}
use Rattle.bgp_types.specs.declared.rank.From.TheVariants.{Own, Peering as FromPeering, Router}
use Rattle.bgp_types.specs.Texts.{prefix_text}
use Rattle.bgp_story.specs.States.{state_of}
use Rattle.graft_steps.specs.declared.log.GraftEntry.{GraftEntry}
use Rattle.graft_steps.specs.declared.log.GraftStage.{GraftStage}
use Rattle.graft_steps.specs.declared.log.GraftStage.TheVariants.{Waiting, Issued, Ended}
use Rattle.graft_steps.specs.declared.refusal.Outcome.{Outcome}
use Rattle.graft_steps.specs.declared.refusal.Outcome.TheVariants.{Accepted, Refused}
use Rattle.graft_steps.specs.declared.refusal.Refusal.{Refusal}
use Rattle.graft_steps.specs.declared.refusal.Refusal.TheVariants.{SameRouter, NotEstablished, HoldTooShort, RouterFull, PolicyMissing, NoTarget}
use Rattle.lab_tables.specs.declared.input.LabInput.{LabInput}
use Rattle.lab_tables.specs.declared.input.RouterInput.{RouterInput}
use Rattle.lab_tables.specs.declared.input.PeeringInput.{PeeringInput}
use Rattle.lab_report.specs.declared.lab.BestEntry.{BestEntry}
use Rattle.lab_report.specs.declared.lab.RouterTable.{RouterTable}
use Rattle.lab_report.specs.declared.lab.SessionView.{SessionView}
use Rattle.lab_report.specs.declared.lab.Lab.{Lab}
use Rattle.lab_report.specs.declared.lab.Place.{Place}
use Rattle.lab_report.specs.declared.lab.Place.TheVariants.{Held, Moving}
use Rattle.lab_report.specs.declared.lab.RunEnd.{RunEnd}
use Rattle.lab_report.specs.declared.lab.RunEnd.TheVariants.{Settled, Unsettled, StreamFull, JournalFull}

-- ---- words

abbrev pub line_end : List ℕ
line_end = 10 ∷ []

-- ASes joined by commas
abbrev pub ases_text : List ℕ → List ℕ
ases_text [] = []
ases_text (as_number ∷ ases) = decimal as_number ++ flat_map (λ a. codes "," ++ decimal a) ases

-- a set stands within braces
abbrev pub part_text : PathPart → List ℕ
part_text (Sequence ases) = ases_text ases
part_text (Set ases) = codes "{" ++ ases_text ases ++ codes "}"

-- a dash where the path is empty, else its parts joined by commas
abbrev pub path_text : List PathPart → List ℕ
path_text [] = codes "-"
path_text (part ∷ parts) = part_text part ++ flat_map (λ p. codes "," ++ part_text p) parts

-- the name at an index, or a dash
abbrev pub name_at : List (List ℕ) → ℕ → List ℕ
name_at names index = unwrap_or (slice_get names index) (codes "-")

abbrev pub router_name : LabInput → ℕ → List ℕ
router_name input index = name_at (map (λ r. r.name) input.routers) index

abbrev pub peering_name : LabInput → ℕ → List ℕ
peering_name input index = name_at (map (λ p. p.name) input.peerings) index

abbrev pub from_text : LabInput → From → List ℕ
from_text input Own = codes "own"
from_text input (FromPeering p) = codes "peering " ++ peering_name input p.0
from_text input (Router r) = codes "router " ++ router_name input r.0

abbrev pub state_text : SessionState → List ℕ
state_text OpenSent = codes "OpenSent"
state_text OpenConfirm = codes "OpenConfirm"
state_text Established = codes "Established"
state_text Closed = codes "Closed"

-- ---- how the run ended

abbrev pub end_words : LabInput → RunEnd → List ℕ
end_words input Settled = codes "settled"
end_words input (Unsettled step rounds pending) = codes "unsettled step " ++ decimal step ++ codes " rounds " ++ decimal rounds
end_words input (StreamFull peering length) = codes "stream-full peering " ++ peering_name input peering.0 ++ codes " length " ++ decimal length
end_words input (JournalFull events) = codes "journal-full events " ++ decimal events

abbrev pub end_line : LabInput → RunEnd → List ℕ
end_line input end = codes "result " ++ end_words input end ++ line_end

-- ---- routers

-- a best route: its prefix, where it comes from, its preference and its path
abbrev pub best_line : LabInput → BestEntry → List ℕ
best_line input b = codes "best " ++ prefix_text b.prefix ++ codes " " ++ from_text input b.from
    ++ codes " pref " ++ decimal b.route.pref ++ codes " path " ++ path_text b.route.attrs.path ++ line_end

abbrev pub table_lines : LabInput → Option RouterTable → List ℕ
table_lines input None = []
table_lines input (Some t) = flat_map (best_line input) t.best

abbrev pub named_line : List ℕ → List ℕ
named_line name = codes "router " ++ name ++ line_end

-- a router's name, and then its best routes
abbrev pub router_lines : LabInput → List RouterTable → ℕ × RouterInput → List ℕ
router_lines input tables r = named_line r.1.name ++ table_lines input (slice_get tables r.0)

-- ---- peerings

-- where a session is: at a router, or on its way
abbrev pub place_text : LabInput → Option Place → List ℕ
place_text input None = codes "at -"
place_text input (Some (Held router)) = codes "at " ++ router_name input router.0
place_text input (Some Moving) = codes "moving"

-- a peering's name and its place
abbrev pub place_words : List ℕ → List ℕ → List ℕ
place_words name place = codes "peering " ++ name ++ codes " " ++ place

-- its session's state, and how many prefixes were heard and told on it
abbrev pub session_words : SessionView → List ℕ
session_words view = codes " state " ++ state_text (state_of view.story.lines)
    ++ codes " heard " ++ decimal view.heard ++ codes " told " ++ decimal view.told ++ line_end

-- a peering that has no session has no line
abbrev pub view_words : Option SessionView → List ℕ → List ℕ
view_words None words = []
view_words (Some view) words = words ++ session_words view

abbrev pub peering_line : LabInput → List SessionView → List Place → ℕ × PeeringInput → List ℕ
peering_line input sessions placement p = view_words (slice_get sessions p.0) (place_words p.1.name (place_text input (slice_get placement p.0)))

-- ---- grafts

-- a name, with a text in brackets
abbrev pub named_text : List ℕ → List ℕ → List ℕ
named_text name inner = name ++ codes "(" ++ inner ++ codes ")"

abbrev pub refusal_text : Refusal → List ℕ
refusal_text SameRouter = codes "SameRouter"
refusal_text (NotEstablished state) = named_text (codes "NotEstablished") (state_text state)
refusal_text (HoldTooShort hold) = named_text (codes "HoldTooShort") (decimal hold)
refusal_text (RouterFull room) = named_text (codes "RouterFull") (decimal room)
refusal_text (PolicyMissing name) = named_text (codes "PolicyMissing") name
refusal_text NoTarget = codes "NoTarget"

abbrev pub outcome_text : Outcome → List ℕ
outcome_text Accepted = codes "accepted"
outcome_text (Refused refusal) = codes "refused " ++ refusal_text refusal

abbrev pub stage_text : GraftStage → List ℕ
stage_text Waiting = codes "waiting"
stage_text Issued = codes "open"
stage_text (Ended outcome) = outcome_text outcome

-- the router at which a graft was ordered, or a dash
abbrev pub source_text : LabInput → Option RouterId → List ℕ
source_text input None = codes "-"
source_text input (Some router) = router_name input router.0

abbrev pub graft_line : LabInput → GraftEntry → List ℕ
graft_line input g = codes "graft " ++ decimal g.graft ++ codes " " ++ peering_name input g.peering.0 ++ codes " "
    ++ source_text input g.source ++ codes " " ++ router_name input g.target.0 ++ codes " " ++ stage_text g.stage ++ line_end

-- ---- the whole

-- how the run ended, each router with its best routes, each peering, and each graft
abbrev pub report_text : Lab → List ℕ
report_text lab = end_line lab.input lab.end
    ++ flat_map (router_lines lab.input lab.tables) (enumerate_from 0 lab.input.routers)
    ++ flat_map (peering_line lab.input lab.sessions lab.placement) (enumerate_from 0 lab.input.peerings)
    ++ flat_map (graft_line lab.input) lab.log
