-- When a script is that of a laboratory.
use Rattle.std.specs.Prelude.{◌≡◌, ◌≤◌, ◌<◌, ◌-◌, All, length, map, Some, slice_get}
use Rattle.graft_model.specs.Setups.{Setup, ScriptStep as StepOf, SayStep, MoveStep, EvacuateStep, SettleStep}
use Rattle.actor_configs.specs.declared.script.Script.{Script}
use Rattle.actor_configs.specs.declared.script.ScriptStep.{ScriptStep}
use Rattle.actor_configs.specs.declared.script.ScriptStep.TheVariants.{Say, Graft, Evacuate, Settle}

-- a step as the operator knows it: without the bytes that a remote is to say
abbrev pub step_for : StepOf → ScriptStep
step_for (SayStep p bytes) = Say (record { 0 = p })
step_for (MoveStep p target) = Graft (record { 0 = p }) (record { 0 = target })
step_for (EvacuateStep router) = Evacuate (record { 0 = router })
step_for SettleStep = Settle

-- The script has the rooms of the laboratory's routers, the routers at which its peerings start, and its steps.
pub record IsScriptOf (setup : Setup) (script : Script) : Type 0 where
  pub rooms : script.rooms ≡ map (λ router. router.room) setup.routers
  pub starts : script.starts ≡ map (λ peering. record { 0 = peering.start }) setup.peerings
  pub steps : script.steps ≡ map step_for setup.steps

-- the peering of a step has a start, and the router that it names exists
abbrev pub IsWorkableStep : Script → ScriptStep → Type 0
IsWorkableStep script (Say peering) = peering.0 < length script.starts
IsWorkableStep script (Graft peering target) = (peering.0 < length script.starts) × (target.0 < length script.rooms)
IsWorkableStep script (Evacuate router) = router.0 < length script.rooms
IsWorkableStep script Settle = Unit {0}

-- What the operator can work through: each peering that a step names has a start, each router that
-- is named and each peering is one of at most 256, and the last of at most 4,097 steps ends a group.
pub record IsWorkable (script : Script) : Type 0 where
  pub starts : All (λ start. start.0 < length script.rooms) script.starts
  pub steps : All (IsWorkableStep script) script.steps
  pub few : length script.rooms ≤ 256
  pub peerings : length script.starts ≤ 256
  pub some : 0 < length script.steps
  pub short : length script.steps ≤ 4097
  pub ended : slice_get script.steps (length script.steps - 1) ≡ Some Settle
