-- The script of an input as the operator has it.
use Rattle.std.specs.Prelude.{◌-◌, Bool, true, false, List, [], ◌∷◌, ◌++◌, length, map, Option, Some, None, if◌then◌else◌, slice_get}
use Rattle.lab_tables.specs.declared.input.Step.{Step}
use Rattle.lab_tables.specs.declared.input.Step.TheVariants as steps
use Rattle.actor_configs.specs.declared.script.ScriptStep.{ScriptStep}
use Rattle.actor_configs.specs.declared.script.ScriptStep.TheVariants.{Say, Graft, Evacuate, Settle}

-- a step as the operator has it
abbrev pub script_order : Step → ScriptStep
script_order (steps.Announce peering prefixes a) = Say peering
script_order (steps.Withdraw peering prefixes) = Say peering
script_order (steps.Raw peering bytes) = Say peering
script_order (steps.Graft peering target) = Graft peering target
script_order (steps.Settle rounds least) = Settle
script_order (steps.Evacuate router) = Evacuate router

abbrev pub is_end : Option ScriptStep → Bool
is_end None = false
is_end (Some (Say peering)) = false
is_end (Some (Graft peering target)) = false
is_end (Some (Evacuate router)) = false
is_end (Some Settle) = true

-- where the last step doesn't end a group, one that does is added
abbrev pub end_after : List ScriptStep → List ScriptStep
end_after orders = if is_end (slice_get orders (length orders - 1)) then [] else Settle ∷ []

abbrev pub script_orders : List Step → List ScriptStep
script_orders steps = map script_order steps ++ end_after (map script_order steps)
