-- Room in steps, and the steps of the remotes that are kept.
use Rattle.std.specs.Prelude.{ℕ, ◌+◌, ◌++◌, ◌==◌, ◌&&◌, nat_le, Bool, false, List, length, filter, Option, Some, None}
use Rattle.imported_sessions.specs.declared.imported.Said.{Said}
use Rattle.imported_sessions.specs.declared.opened.Opened.{Opened}
use Rattle.imported_sessions.specs.Opened.{is_external_in}
use Rattle.imported_sessions.specs.Steps.{ArePacked}

-- a message belongs into the step in front of it, if there is one: it is of the same remote, and there is room
abbrev pub has_room : Option Said → Said → Bool
has_room None message = false
has_room (Some step) message = step.peer == message.peer && nat_le (length step.octets + length message.octets) 4096

-- of these messages, those of the remotes that are of other ASes than the home side stand in these steps
abbrev pub AreStepsOf : List Opened → (home_as : ℕ) → (told steps : List Said) → Type 0
AreStepsOf opened home_as told steps = ArePacked (filter (λ message. is_external_in opened home_as message.peer) told) steps

-- with more messages, steps become these
abbrev pub AreMoreStepsOf : List Opened → (home_as : ℕ) → (more old new : List Said) → Type 0
AreMoreStepsOf opened home_as more old new = (told : List Said) → AreStepsOf opened home_as told old → AreStepsOf opened home_as (told ++ more) new
