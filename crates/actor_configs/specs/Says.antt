-- The bytes that the steps of a script have a remote say.
use Rattle.std.specs.Prelude.{ℕ, ◌==◌, List, Option, Some, None, find, if◌then◌else◌, option_map, nat_eq}
use Rattle.std.specs.HashMap.{get}
use Rattle.graft_model.specs.Setups.{ScriptStep, SayStep, MoveStep, EvacuateStep, SettleStep}
use Rattle.actor_configs.specs.declared.says.Say.{Say}
use Rattle.actor_configs.specs.declared.says.SayTable.{SayTable}

-- the bytes of a step in a list: those of the first member for this step
abbrev pub bytes_to_say : List Say → ℕ → Option (List ℕ)
bytes_to_say says step = option_map (λ say. say.bytes) (find (λ say. say.step == step) says)

-- the bytes of a step in a table
abbrev pub bytes_at : SayTable → ℕ → Option (List ℕ)
bytes_at table step = get nat_eq table.bytes step

-- the bytes that a step has the remote of this peering say
abbrev pub say_by : ℕ → Option ScriptStep → Option (List ℕ)
say_by p None = None
say_by p (Some (SayStep q bytes)) = if q == p then Some bytes else None
say_by p (Some (MoveStep q target)) = None
say_by p (Some (EvacuateStep router)) = None
say_by p (Some SettleStep) = None
