-- What a step of an input has a remote say.
use Rattle.std.specs.Prelude.{ℕ, ◌==◌, Bool, List, [], Option, Some, None, unwrap_or, if◌then◌else◌}
use Rattle.std.specs.List.{flat_map}
use Rattle.bgp_types.specs.declared.message.Message.TheVariants.{UpdateMsg}
use Rattle.bgp_types.specs.Spelling.{spell}
use Rattle.lab_tables.specs.declared.input.Step.{Step}
use Rattle.lab_tables.specs.declared.input.Step.TheVariants.{Announce, Withdraw, Raw, Graft, Settle, Evacuate}
use Rattle.lab_input.specs.Said.{step_update}

abbrev pub some_if : {A : Type 0} → Bool → A → Option A
some_if test x = if test then Some x else None

-- the bytes that a step has the remote of a peering say, by the width of AS numbers there
abbrev pub bytes_of_step : Bool → ℕ → Step → Option (List ℕ)
bytes_of_step wide p (Announce q prefixes a) = some_if (q.0 == p) (spell (UpdateMsg (step_update (Announce q prefixes a))) wide)
bytes_of_step wide p (Withdraw q prefixes) = some_if (q.0 == p) (spell (UpdateMsg (step_update (Withdraw q prefixes))) wide)
bytes_of_step wide p (Raw q bytes) = some_if (q.0 == p) bytes
bytes_of_step wide p (Graft q target) = None
bytes_of_step wide p (Settle rounds least) = None
bytes_of_step wide p (Evacuate router) = None

-- all bytes that steps have the remote of a peering say
abbrev pub said_over : Bool → ℕ → List Step → List ℕ
said_over wide p steps = flat_map (λ step. unwrap_or (bytes_of_step wide p step) []) steps
