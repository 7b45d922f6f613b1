-- What the operator's log says about the grafts of a peering, by the phase of the last one.
use Rattle.std.specs.Prelude.{ℕ, ◌==◌, ◌≡◌, ◌≢◌, ◌≤◌, ◌⊎◌, Bool, false, List, [], ◌∷◌, ◌++◌, filter, Option, Some, None}
use Rattle.std.specs.List.{AllByRecursion}
use Rattle.graft_model.specs.Setups.{Setup, ScriptGraft, group_of, grafts_in, graft_at}
use Rattle.graft_model.specs.Parts.{OperatorPart}
use Rattle.graft_model.specs.Placements.{target_in, placement}
use Rattle.graft_laws.specs.Phases.{Phase, Idle, Busy, source_of}

-- the grafts of a peering, in the order of the script
abbrev pub grafts_of : Setup → ℕ → List ScriptGraft
grafts_of setup p = filter (λ g. g.peering == p) (grafts_in setup)

abbrev pub is_peering : ℕ → Option ScriptGraft → Bool
is_peering p None = false
is_peering p (Some g) = g.peering == p

-- the graft of this number is one of the peering p
abbrev pub is_graft_on : Setup → ℕ → ℕ → Bool
is_graft_on setup p k = is_peering p (graft_at setup k)

-- a graft was ordered and has its outcome
pub record HasEnded (operator : OperatorPart) (g : ScriptGraft) : Type 0 where
  pub ordered : operator.source g.graft ≢ None
  pub ended : operator.outcome g.graft ≢ None

-- a graft wasn't ordered
pub record AwaitsOrder (operator : OperatorPart) (g : ScriptGraft) : Type 0 where
  pub unordered : operator.source g.graft ≡ None
  pub unended : operator.outcome g.graft ≡ None

-- A graft is of a group that has begun. It has ended, or doesn't exist.
pub record IsBehind (setup : Setup) (operator : OperatorPart) (g : ScriptGraft) : Type 0 where
  pub begun : group_of setup g.step ≤ operator.group
  pub over : HasEnded operator g ⊎ (AwaitsOrder operator g × (target_in setup operator g ≡ None))

-- The graft that is under way is the script's, in the current group. It was ordered at its source, and has no outcome.
pub record IsGraftUnderWay (setup : Setup) (operator : OperatorPart) (p source graft target : ℕ) (now : List ScriptGraft) : Type 0 where
  pub step : ℕ
  pub is : now ≡ record { graft = graft; peering = p; step = step } ∷ []
  pub known : graft_at setup graft ≡ Some (record { graft = graft; peering = p; step = step })
  pub begun : group_of setup step ≡ operator.group
  pub aims : target_in setup operator (record { graft = graft; peering = p; step = step }) ≡ Some target
  pub ordered : operator.source graft ≡ Some source
  pub unended : operator.outcome graft ≡ None

abbrev pub GoesOnIn : Setup → OperatorPart → ℕ → Phase → List ScriptGraft → Type 0
GoesOnIn setup operator p (Idle q) now = now ≡ []
GoesOnIn setup operator p (Busy q k t stage) now = IsGraftUnderWay setup operator p q k t now

-- The script's grafts of the peering are those that are over, the one that is under way, and those that wait, in this order. The session belongs at
-- the source of the one that is under way.
pub record LogSays (setup : Setup) (operator : OperatorPart) (p : ℕ) (phase : Phase) : Type 0 where
  pub past : List ScriptGraft
  pub now : List ScriptGraft
  pub later : List ScriptGraft
  pub grafts : grafts_of setup p ≡ past ++ (now ++ later)
  pub are_behind : AllByRecursion (IsBehind setup operator) past
  pub goes_on : GoesOnIn setup operator p phase now
  pub wait : AllByRecursion (AwaitsOrder operator) later
  pub placed : placement setup operator p ≡ source_of phase
