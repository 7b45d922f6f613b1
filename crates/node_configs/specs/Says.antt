-- What the steps of an input have a remote say.
use Rattle.std.specs.Prelude.{ℕ, Bool, List, [], Option, option_map}
use Rattle.std.specs.List.{enumerate_from, flat_map, cons_option}
use Rattle.lab_tables.specs.declared.input.Step.{Step}
use Rattle.lab_setup.specs.Said.{bytes_of_step}
use Rattle.actor_configs.specs.declared.says.Say.{Say}

-- the say of the step of this number, where it has the remote say these bytes
abbrev pub say_if : ℕ → Option (List ℕ) → List Say
say_if step said = cons_option (option_map (λ bytes. record { step = step; bytes = bytes }) said) []

-- all that the remote says, by rising step
abbrev pub says_of : Bool → ℕ → List Step → List Say
says_of wide p steps = flat_map (λ x. say_if x.0 (bytes_of_step wide p x.1)) (enumerate_from 0 steps)
