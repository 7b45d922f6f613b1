-- What becomes of the grafts of a script, where the script alone decides it.
use Rattle.std.specs.Prelude.{ℕ, ◌≡◌, ◌≢◌, ◌≤◌, ◌<◌, ◌==◌, true, ◌&&◌, nat_lt, List, [], ◌∷◌, Option, Some, None, filter, slice_get, if◌then◌else◌}
use Rattle.std.specs.List.{filter_map}
use Rattle.bgp_types.specs.declared.message.SessionState.TheVariants.{Established}
use Rattle.graft_steps.specs.declared.refusal.Outcome.{Outcome}
use Rattle.graft_steps.specs.declared.refusal.Outcome.TheVariants.{Accepted, Refused}
use Rattle.graft_steps.specs.declared.refusal.Refusal.TheVariants.{SameRouter, PolicyMissing}
use Rattle.session_value.specs.declared.config.SessionConfig.{SessionConfig}
use Rattle.graft_model.specs.Setups.{Setup, PeeringSetup, EvacuateStep, ScriptGraft, graft_at, grafts_in, group_of, config_of, start_of}
use Rattle.graft_model.specs.Setups.{missing_policy, room_of, routers_in, peerings_in}
use Rattle.graft_model.specs.Parts.{OperatorPart, Unmade}
use Rattle.graft_model.specs.OperatorRows.{placement}
use Rattle.graft_model.specs.Placements.{target_by}
use Rattle.even_inputs.specs.Timers.{has_no_timer}
use Rattle.even_inputs.specs.Readings.{reading_of}
use Rattle.even_inputs.specs.Solutions.{reading_in}

-- ---- what the script says

-- a target refuses a session that names a policy which it doesn't have
abbrev pub by_policies : Option (List ℕ) → Outcome
by_policies None = Accepted
by_policies (Some name) = Refused (PolicyMissing name)

-- what becomes of a graft to a target, of a session that is at router r
abbrev pub result_at : Setup → SessionConfig → (r target : ℕ) → Outcome
result_at setup config r target = if target == r then Refused SameRouter else by_policies (missing_policy setup target config)

-- where the session is then
abbrev pub router_after_graft : (r target : ℕ) → Outcome → ℕ
router_after_graft r target Accepted = target
router_after_graft r target (Refused refusal) = r

-- where it is after grafts to these targets, one after another
abbrev pub router_after : Setup → SessionConfig → ℕ → List ℕ → ℕ
router_after setup config r [] = r
router_after setup config r (target ∷ targets) = router_after setup config (router_after_graft r target (result_at setup config r target)) targets

-- the target that a step names for a graft
abbrev pub target_named : Setup → ScriptGraft → Option ℕ
target_named setup g = target_by (slice_get setup.steps g.step) Unmade

-- to where the script moves the session of a peering, in the order of the script
abbrev pub targets_of : Setup → ℕ → List ℕ
targets_of setup p = filter_map (target_named setup) (filter (λ g. g.peering == p) (grafts_in setup))

-- and before the graft k
abbrev pub targets_before : Setup → (p k : ℕ) → List ℕ
targets_before setup p k = filter_map (target_named setup) (filter (λ g. (g.peering == p) && nat_lt g.graft k) (grafts_in setup))

-- what becomes of a graft, by the script
abbrev pub result_of : Setup → SessionConfig → ScriptGraft → (target : ℕ) → Outcome
result_of setup config g target = result_at setup config (router_after setup config (start_of setup g.peering) (targets_before setup g.peering g.graft)) target

-- The log has for each graft what the script says becomes of it, and each session belongs where the script then has it.
pub record HasResults (setup : Setup) (part : OperatorPart) : Type 0 where
  pub results : (g : ScriptGraft) (config : SessionConfig) (target : ℕ) → graft_at setup g.graft ≡ Some g → config_of setup g.peering ≡ Some config
      → target_named setup g ≡ Some target → part.outcome g.graft ≡ Some (result_of setup config g target)
  pub placed : (p : ℕ) (config : SessionConfig) → config_of setup p ≡ Some config
      → placement setup part p ≡ router_after setup config (start_of setup p) (targets_of setup p)

-- ---- where it alone decides

-- A peering's session is established by its remote's opening, and stays so by all that its remote says over the script.
pub record StaysUp (setup : Setup) (p : ℕ) (peering : PeeringSetup) : Type 0 where
  pub opened : (reading_of peering peering.opening).state ≡ Established
  pub kept : (reading_in setup (p, peering)).state ≡ Established

-- No session has a timer, each router has room for all sessions, no graft stands in the first group, no step empties a router, and the sessions that
-- the script moves stay up.
pub record IsSure (setup : Setup) : Type 0 where
  pub timer : has_no_timer setup ≡ true
  pub room : (r : ℕ) → r < routers_in setup → peerings_in setup ≤ room_of setup r
  pub later : (g : ScriptGraft) → graft_at setup g.graft ≡ Some g → 0 < group_of setup g.step
  pub moves : (n r : ℕ) → slice_get setup.steps n ≢ Some (EvacuateStep r)
  pub up : (g : ScriptGraft) (peering : PeeringSetup) → graft_at setup g.graft ≡ Some g → slice_get setup.peerings g.peering ≡ Some peering
      → StaysUp setup g.peering peering
