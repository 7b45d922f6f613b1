-- The log of grafts, and what it says about sources and outcomes.
use Rattle.std.specs.Prelude.{ℕ, List, [], ◌∷◌, flat_map, Bool, true, false, Option, Some, None, slice_get}
use Rattle.std.specs.Option.{option_map}
use Rattle.graft_edge.specs.declared.ids.RouterId.{RouterId}
use Rattle.graft_steps.specs.declared.log.GraftEntry.{GraftEntry}
use Rattle.graft_steps.specs.declared.log.GraftStage.{GraftStage}
use Rattle.graft_steps.specs.declared.log.GraftStage.TheVariants.{Waiting, Issued, Ended}
use Rattle.graft_steps.specs.declared.refusal.Outcome.{Outcome}
use Rattle.graft_steps.specs.declared.refusal.Outcome.TheVariants.{Refused}
use Rattle.graft_steps.specs.declared.refusal.Refusal.TheVariants.{NoTarget}
use Rattle.graft_model.specs.Setups.{Setup, ScriptGraft, ScriptStep as StepOf, MoveStep, EvacuateStep, grafts_in}
use Rattle.graft_model.specs.Parts.{Gift, Unmade, To, Stays, OperatorPart}
use Rattle.operator_state.specs.declared.grafts.Seat.{Seat}

-- ---- the log, as the operator's part of the world has it

-- the stage of a graft: it waits until it has a source, and it ends with its outcome
abbrev pub graft_stage : Option ℕ → Option Outcome → GraftStage
graft_stage source (Some outcome) = Ended outcome
graft_stage None None = Waiting
graft_stage (Some r) None = Issued

-- the entry of a graft with a target
abbrev pub log_entry : OperatorPart → ScriptGraft → ℕ → GraftEntry
log_entry part g target = record {
  graft = g.graft;
  peering = record { 0 = g.peering };
  source = option_map (λ r. record { 0 = r }) (part.source g.graft);
  target = record { 0 = target };
  stage = graft_stage (part.source g.graft) (part.outcome g.graft);
}

-- a session of the router r, which is emptied, has no target: it stays there
abbrev pub staying_entry : ScriptGraft → ℕ → GraftEntry
staying_entry g r = record {
  graft = g.graft;
  peering = record { 0 = g.peering };
  source = Some (record { 0 = r });
  target = record { 0 = r };
  stage = Ended (Refused NoTarget);
}

abbrev pub given_entries : OperatorPart → ScriptGraft → Gift → List GraftEntry
given_entries part g Unmade = []
given_entries part g (To target) = log_entry part g target ∷ []
given_entries part g (Stays router) = staying_entry g router ∷ []

-- the entry of a graft of this step, if the log has one
abbrev pub log_entries : OperatorPart → Option StepOf → ScriptGraft → List GraftEntry
log_entries part (Some (MoveStep peering target)) g = log_entry part g target ∷ []
log_entries part (Some (EvacuateStep router)) g = given_entries part g (part.given g.graft)
log_entries part _ g = []

-- the grafts of the script's graft steps, and those that its evacuate steps made as their groups began, in the order of their numbers
abbrev pub log_of : Setup → OperatorPart → List GraftEntry
log_of setup part = flat_map (λ g. log_entries part (slice_get setup.steps g.step) g) (grafts_in setup)

-- ---- how far a graft is

abbrev pub is_waiting : GraftStage → Bool
is_waiting Waiting = true
is_waiting Issued = false
is_waiting (Ended outcome) = false

abbrev pub is_open : GraftStage → Bool
is_open Waiting = false
is_open Issued = true
is_open (Ended outcome) = false

abbrev pub outcome_at : GraftStage → Option Outcome
outcome_at Waiting = None
outcome_at Issued = None
outcome_at (Ended outcome) = Some outcome

-- ---- before anything is ordered

abbrev pub seat_at : RouterId → Seat
seat_at place = record { place = place; moving = false }
