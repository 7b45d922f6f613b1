-- What the operator records for the numbers of grafts, and the sources, outcomes and gifts that follow from it.
use Rattle.std.specs.Prelude.{ℕ, zero, suc, ◌+◌, List, [], ◌∷◌, ◌++◌, if◌then◌else◌, Option, Some, None, slice_get}
use Rattle.std.specs.Option.{option_map, option_and_then, option_or}
use Rattle.graft_edge.specs.declared.ids.RouterId.{RouterId}
use Rattle.graft_steps.specs.declared.log.GraftEntry.{GraftEntry}
use Rattle.graft_steps.specs.declared.log.GraftStage.TheVariants.{Waiting, Issued, Ended}
use Rattle.graft_steps.specs.declared.refusal.Outcome.{Outcome}
use Rattle.graft_steps.specs.declared.refusal.Outcome.TheVariants.{Refused}
use Rattle.graft_steps.specs.declared.refusal.Refusal.TheVariants.{NoTarget}
use Rattle.graft_model.specs.Setups.{Setup, ScriptStep as StepOf, EvacuateStep, graft_at}
use Rattle.graft_model.specs.Parts.{Gift, Unmade, To, Stays}
use Rattle.operator_state.specs.declared.grafts.Move.{Move}
use Rattle.operator_state.specs.declared.grafts.Slot.{Slot}
use Rattle.operator_state.specs.declared.grafts.Slot.TheVariants as slots
use Rattle.actor_configs.specs.declared.script.ScriptStep.{ScriptStep}
use Rattle.actor_configs.specs.declared.script.ScriptStep.TheVariants.{Say, Graft, Evacuate, Settle}
use Rattle.operator_state.specs.Grafts.{is_open, outcome_at}

-- the slot of a graft number; numbers start at 1
abbrev pub slot_at : List Slot → ℕ → Option Slot
slot_at xs zero = None
slot_at xs (suc k) = slice_get xs k

-- ---- what a slot says

abbrev pub source_at : GraftEntry → Option ℕ
source_at entry = option_map (λ r. r.0) entry.source

abbrev pub slot_source : Option Slot → Option ℕ
slot_source (Some (slots.Made entry)) = source_at entry
slot_source _ = None

abbrev pub outcome_of : Option Slot → Option Outcome
outcome_of (Some (slots.Made entry)) = outcome_at entry.stage
outcome_of _ = None

abbrev pub slot_gift : Option Slot → Gift
slot_gift (Some (slots.Made entry)) = To entry.target.0
slot_gift (Some (slots.Stays k p router)) = Stays router.0
slot_gift _ = Unmade

-- what the graft of a step was given: nothing if the step doesn't evacuate a router
abbrev pub given_of : Option StepOf → Option Slot → Gift
given_of (Some (EvacuateStep router)) slot = slot_gift slot
given_of _ slot = Unmade

abbrev pub source_in : List Slot → ℕ → Option ℕ
source_in xs k = slot_source (slot_at xs k)

abbrev pub outcome_in : List Slot → ℕ → Option Outcome
outcome_in xs k = outcome_of (slot_at xs k)

-- the step of a graft's number
abbrev pub scripted_step : Setup → ℕ → Option StepOf
scripted_step setup k = option_and_then (λ g. slice_get setup.steps g.step) (graft_at setup k)

abbrev pub given_in : Setup → List Slot → ℕ → Gift
given_in setup xs k = given_of (scripted_step setup k) (slot_at xs k)

abbrev pub moved_by_entry : GraftEntry → Move
moved_by_entry entry = record { peering = entry.peering; target = entry.target }

-- what a graft moves, if it exists
abbrev pub move_of : Option Slot → Option Move
move_of (Some (slots.Made entry)) = Some (moved_by_entry entry)
move_of _ = None

-- the number of a graft that was ordered and hasn't ended
abbrev pub open_graft : Slot → Option ℕ
open_graft (slots.Made entry) = if is_open entry.stage then Some entry.graft else None
open_graft _ = None

-- the first such number
abbrev pub first_open : List Slot → Option ℕ
first_open [] = None
first_open (slot ∷ xs) = option_or (open_graft slot) (first_open xs)

-- the log's entries for a slot
abbrev pub entries_in_slot : Slot → List GraftEntry
entries_in_slot slots.Unmade = []
entries_in_slot (slots.Stays k p router) = record { graft = k; peering = p; source = Some router; target = router; stage = Ended (Refused NoTarget) } ∷ []
entries_in_slot (slots.Made entry) = entry ∷ []

-- ---- what happens to a slot

abbrev pub issued_slot : Slot → RouterId → Slot
issued_slot (slots.Made entry) router = slots.Made (record entry { source = Some router; stage = Issued })
issued_slot slot router = slot

abbrev pub ended_slot : Slot → Outcome → Slot
ended_slot (slots.Made entry) outcome = slots.Made (record entry { stage = Ended outcome })
ended_slot slot outcome = slot

-- ---- before any group begins

abbrev pub waiting_entry : ℕ → Move → GraftEntry
waiting_entry k moves = record { graft = k; peering = moves.peering; source = None; target = moves.target; stage = Waiting }

abbrev pub unmade_slots : ℕ → List Slot
unmade_slots zero = []
unmade_slots (suc count) = slots.Unmade ∷ unmade_slots count

-- the slots of steps before any group begins, numbered from k + 1 on, by the number of peerings
abbrev pub first_slots : ℕ → ℕ → List ScriptStep → List Slot
first_slots peerings k [] = []
first_slots peerings k (Say p ∷ steps) = first_slots peerings k steps
first_slots peerings k (Graft p target ∷ steps) =
    slots.Made (waiting_entry (k + 1) (record { peering = p; target = target })) ∷ first_slots peerings (k + 1) steps
first_slots peerings k (Evacuate router ∷ steps) = unmade_slots peerings ++ first_slots peerings (k + peerings) steps
first_slots peerings k (Settle ∷ steps) = first_slots peerings k steps
