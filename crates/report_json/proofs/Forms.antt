-- The values of check, run and drill have no floats.
use Rattle.std.proofs.Common.{ℕ, List, [], ◌∷◌, Option, Some, None, option_map, refl, sym, subst, slice_get}
use Rattle.std.specs.List.{enumerate_from}
use Rattle.serde_json.specs.Data.{Data}
use Rattle.graft_edge.specs.declared.ids.RouterId.{RouterId}
use Rattle.bgp_types.specs.Texts.{prefix_text}
use Rattle.bgp_types.specs.declared.path.PathPart.{PathPart}
use Rattle.bgp_types.specs.declared.path.PathPart.TheVariants.{Set, Sequence}
use Rattle.bgp_types.specs.declared.rank.From.{From}
use Rattle.bgp_types.specs.declared.rank.From.TheVariants.{Own, Peering as FromPeering, Router}
use Rattle.graft_steps.specs.declared.log.GraftEntry.{GraftEntry}
use Rattle.graft_steps.specs.declared.log.GraftStage.{GraftStage}
use Rattle.graft_steps.specs.declared.log.GraftStage.TheVariants.{Waiting, Issued, Ended}
use Rattle.graft_steps.specs.declared.refusal.Outcome.TheVariants.{Accepted, Refused}
use Rattle.graft_steps.specs.declared.refusal.Refusal.{Refusal}
use Rattle.graft_steps.specs.declared.refusal.Refusal.TheVariants.{SameRouter, NotEstablished, HoldTooShort, RouterFull, PolicyMissing, NoTarget}
use Rattle.forward_walk.specs.Tables.{ForwardMap}
use Rattle.forward_walk.specs.declared.walk.Walk.{Walk}
use Rattle.lab_tables.specs.declared.input.LabInput.{LabInput}
use Rattle.lab_tables.specs.declared.input.PeeringInput.{PeeringInput}
use Rattle.lab_tables.specs.declared.input.RouterInput.{RouterInput}
use Rattle.lab_report.specs.declared.lab.BestEntry.{BestEntry}
use Rattle.lab_report.specs.declared.lab.Lab.{Lab}
use Rattle.lab_report.specs.declared.lab.Place.{Place}
use Rattle.lab_report.specs.declared.lab.Place.TheVariants.{Held, Moving}
use Rattle.lab_report.specs.declared.lab.RouterTable.{RouterTable}
use Rattle.lab_report.specs.declared.lab.RunEnd.{RunEnd}
use Rattle.lab_report.specs.declared.lab.RunEnd.TheVariants.{Settled, Unsettled, StreamFull, JournalFull}
use Rattle.lab_report.specs.declared.lab.SessionView.{SessionView}
use Rattle.lab_report.specs.Report.{peering_name}
use Rattle.lab_report.specs.Traces.{numbered_routers}
use Rattle.report_json.specs.Run.{end_json, part_json, path_json, from_name, from_json, best_json, table_json, router_json, holder_json}
use Rattle.report_json.specs.Run.{session_json, if_there, peering_json, detail_json, stage_refusal, source_json, graft_json}
use Rattle.report_json.specs.Run.{routers_json, peerings_json, grafts_json, report_json}
use Rattle.report_json.specs.Summary.{short_session_json, short_peering_json, short_router_json, short_peerings_json, short_routers_json, summary_json}
use Rattle.report_json.specs.Traces.{leaves_over, ends_by, trace_json, TracesFrom, Traces}
use Rattle.report_json.specs.Values.{count, list_of}
use Rattle.report_json.proofs.NoFloats.{Whole, AllWhole, with, text_whole, mapped_whole, appended_whole, gathered_whole}

-- ---- the run's end

pub end_whole : (input : LabInput) (end : RunEnd) → Whole (end_json input end)
end_whole input Settled = refl
end_whole input (Unsettled step rounds pending) = refl
end_whole input (StreamFull peering length) = refl
end_whole input (JournalFull events) = refl

-- ---- routers

part_whole : (part : PathPart) → AllWhole (part_json part)
part_whole (Sequence ases) = mapped_whole count (λ a. refl) ases
part_whole (Set ases) = with (mapped_whole count (λ a. refl) ases) refl

pub path_whole : (path : List PathPart) → Whole (path_json path)
path_whole path = gathered_whole part_json part_whole path

from_name_whole : (input : LabInput) (from : From) → Whole (from_name input from)
from_name_whole input Own = refl
from_name_whole input (FromPeering p) = refl
from_name_whole input (Router r) = refl

pub from_whole : (input : LabInput) (from : From) → Whole (from_json input from)
from_whole input from = with (from_name_whole input from) refl

best_whole : (input : LabInput) (b : BestEntry) → Whole (best_json input b)
best_whole input b = with (from_whole input b.from) (with (path_whole b.route.attrs.path) refl)

table_whole : (input : LabInput) (table : Option RouterTable) → Whole (table_json input table)
table_whole input None = refl
table_whole input (Some t) = mapped_whole (best_json input) (best_whole input) t.best

router_whole : (input : LabInput) (tables : List RouterTable) (r : ℕ × RouterInput) → Whole (router_json input tables r)
router_whole input tables r = with (table_whole input (slice_get tables r.0)) refl

routers_whole : (lab : Lab) → Whole (routers_json lab)
routers_whole lab = mapped_whole (router_json lab.input lab.tables) (router_whole lab.input lab.tables) (enumerate_from 0 lab.input.routers)

-- ---- peerings

pub holder_whole : (input : LabInput) (place : Option Place) → Whole (holder_json input place)
holder_whole input None = refl
holder_whole input (Some (Held router)) = refl
holder_whole input (Some Moving) = refl

pub there_whole : (form : SessionView → Data) → ((view : SessionView) → Whole (form view)) → (view : Option SessionView) → AllWhole (if_there form view)
there_whole form each None = refl
there_whole form each (Some view) = with (each view) refl

peering_whole : (input : LabInput) (sessions : List SessionView) (placement : List Place) (p : ℕ × PeeringInput)
    → AllWhole (peering_json input sessions placement p)
peering_whole input sessions placement p =
    there_whole (session_json input p.1.name (slice_get placement p.0)) (λ view. with (holder_whole input (slice_get placement p.0)) refl)
    (slice_get sessions p.0)

peerings_whole : (lab : Lab) → Whole (peerings_json lab)
peerings_whole lab =
    gathered_whole (peering_json lab.input lab.sessions lab.placement) (peering_whole lab.input lab.sessions lab.placement)
    (enumerate_from 0 lab.input.peerings)

-- ---- grafts

detail_whole : (refusal : Refusal) → Whole (detail_json refusal)
detail_whole SameRouter = refl
detail_whole (NotEstablished state) = refl
detail_whole (HoldTooShort hold) = refl
detail_whole (RouterFull room) = refl
detail_whole (PolicyMissing name) = refl
detail_whole NoTarget = refl

pub stage_whole : (stage : GraftStage) → Whole (stage_refusal stage)
stage_whole Waiting = refl
stage_whole Issued = refl
stage_whole (Ended Accepted) = refl
stage_whole (Ended (Refused refusal)) = with (detail_whole refusal) refl

pub source_whole : (input : LabInput) (source : Option RouterId) → Whole (source_json input source)
source_whole input None = refl
source_whole input (Some router) = refl

pub graft_whole : (input : LabInput) (g : GraftEntry) → Whole (graft_json input g)
graft_whole input g = with (stage_whole g.stage) (with (source_whole input g.source) refl)

grafts_whole : (lab : Lab) → Whole (grafts_json lab)
grafts_whole lab = mapped_whole (graft_json lab.input) (graft_whole lab.input) lab.log

-- ---- traces

trace_whole : (input : LabInput) (address : ℕ) (name : List ℕ) (walk : Walk) → Whole (trace_json input address name walk)
trace_whole input address name walk =
    with (text_whole (option_map (λ p. peering_name input p.0) (leaves_over walk))) (with (text_whole (option_map prefix_text (ends_by walk))) refl)

module _ (input : LabInput) (maps : List ForwardMap) where
  walks_whole : (address : ℕ) (routers : List (ℕ × RouterInput)) (traces : List Data) → TracesFrom input maps address routers traces → AllWhole traces
  walks_whole address [] traces none = subst AllWhole (sym none) refl
  walks_whole address (r ∷ routers) traces t =
      subst AllWhole (sym t.3) (with (trace_whole input address r.1.name t.0) (walks_whole address routers t.2 t.4))

  pub traces_whole : (addresses : List ℕ) (traces : List Data) → Traces input maps addresses traces → AllWhole traces
  traces_whole [] traces none = subst AllWhole (sym none) refl
  traces_whole (address ∷ addresses) traces t =
      subst AllWhole (sym t.3) (appended_whole t.0 t.2 (walks_whole address (numbered_routers input) t.0 t.1) (traces_whole addresses t.2 t.4))

-- ---- the whole

pub report_whole : (lab : Lab) (traces : List Data) → AllWhole traces → Whole (report_json lab (list_of traces))
report_whole lab traces all =
    with (grafts_whole lab) (with (peerings_whole lab) (with (end_whole lab.input lab.end) (with (routers_whole lab) (with all refl))))

short_peering_whole : (input : LabInput) (sessions : List SessionView) (placement : List Place) (p : ℕ × PeeringInput)
    → AllWhole (short_peering_json input sessions placement p)
short_peering_whole input sessions placement p =
    there_whole (short_session_json input p.1.name (slice_get placement p.0)) (λ view. with (holder_whole input (slice_get placement p.0)) refl)
    (slice_get sessions p.0)

short_peerings_whole : (lab : Lab) → Whole (short_peerings_json lab)
short_peerings_whole lab = gathered_whole (short_peering_json lab.input lab.sessions lab.placement)
    (short_peering_whole lab.input lab.sessions lab.placement) (enumerate_from 0 lab.input.peerings)

short_routers_whole : (lab : Lab) → Whole (short_routers_json lab)
short_routers_whole lab = mapped_whole (short_router_json lab.tables) (λ r. refl) (enumerate_from 0 lab.input.routers)

pub summary_whole : (lab : Lab) → Whole (summary_json lab)
summary_whole lab = with (short_peerings_whole lab) (with (end_whole lab.input lab.end) (with (short_routers_whole lab) refl))
