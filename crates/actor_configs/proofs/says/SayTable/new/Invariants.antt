use Rattle.std.proofs.Common.{◌≡◌, ℕ, ◌++◌, List, vec_len}
use Rattle.std.specs.Prelude.{nat_eq}
use Rattle.std.specs.HashMap.{get}
use Rattle.actor_configs.specs.declared.says.Say.{Say}
use Rattle.actor_configs.specs.Says.{bytes_to_say}
use Rattle.actor_configs.proofs.says.SayTable.new.Given as goal

-- the table has the bytes of what was taken off the list's end
abbrev pub invariant-loop-say : goal.invariant-loop-say
invariant-loop-say l = (rest : List Say) × (l.fn.says ≡ l.left.items ++ rest) × ((step : ℕ) → get nat_eq l.table step ≡ bytes_to_say rest step)

abbrev pub decreases-loop-say : goal.decreases-loop-say
decreases-loop-say l = vec_len l.left
