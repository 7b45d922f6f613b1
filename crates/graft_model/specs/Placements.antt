-- What the operator's log says about grafts, and about where sessions belong.
use Rattle.std.specs.Prelude.{ℕ, ◌==◌, ◌&&◌, Bool, true, false, Option, Some, None, filter, unwrap_or, slice_get}
use Rattle.std.specs.List.{last_or}
use Rattle.std.specs.Option.{option_and_then}
use Rattle.graft_steps.specs.declared.refusal.Outcome.{Outcome}
use Rattle.graft_steps.specs.declared.refusal.Outcome.TheVariants.{Accepted, Refused}
use Rattle.graft_model.specs.Setups.{Setup, ScriptStep, MoveStep, EvacuateStep, ScriptGraft, start_of, grafts_in}
use Rattle.graft_model.specs.Parts.{Gift, Unmade, To, Stays, OperatorPart}

abbrev pub target_given : Gift → Option ℕ
target_given Unmade = None
target_given (To target) = Some target
target_given (Stays router) = None

-- the target of a graft of a step, if it has one: the step's own, or what the graft is given
abbrev pub target_by : Option ScriptStep → Gift → Option ℕ
target_by (Some (MoveStep peering target)) gift = Some target
target_by (Some (EvacuateStep router)) gift = target_given gift
target_by _ gift = None

abbrev pub target_in : Setup → OperatorPart → ScriptGraft → Option ℕ
target_in setup part g = target_by (slice_get setup.steps g.step) (part.given g.graft)

abbrev pub is_accepted : Option Outcome → Bool
is_accepted None = false
is_accepted (Some Accepted) = true
is_accepted (Some (Refused refusal)) = false

-- Where a peering's session belongs by the log: at the target of its last accepted graft, or else where it starts.
abbrev pub placement : Setup → OperatorPart → ℕ → ℕ
placement setup part p =
    unwrap_or (option_and_then (target_in setup part)
    (last_or None (filter (λ g. (g.peering == p) && is_accepted (part.outcome g.graft)) (grafts_in setup)))) (start_of setup p)
