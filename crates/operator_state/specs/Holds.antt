-- What holds the operator up, and what a group that begins has given.
use Rattle.std.specs.Prelude.{ℕ, ◌≡◌, ◌≤◌, ◌+◌, ◌⊎◌, List, Some, None, slice_get}
use Rattle.graft_model.specs.Setups.{Setup, EvacuateStep, ScriptGraft, group_of, graft_at, groups_in}
use Rattle.graft_model.specs.Parts.{OperatorPart}
use Rattle.graft_model.specs.Placements.{placement}
use Rattle.graft_model.specs.Evacuations.{gift_to}
use Rattle.graft_model.specs.OperatorRows.{OperatorSent}
use Rattle.graft_model.specs.declared.event.OperatorEvent.TheVariants.{Order}
use Rattle.graft_model.specs.Steps.{operator_row}
use Rattle.settled_check.specs.Left.{HasUnissued, IsOpen}

-- nothing of the current group may be ordered
abbrev pub NothingToOrder : Setup → OperatorPart → Type 0
NothingToOrder setup part = (step number : ℕ) (sent : List OperatorSent) (after : OperatorPart)
    → operator_row setup (Order step number) part None sent after → ⊥

-- The next group may not begin: something of the current group wasn't ordered, or a graft of it has no outcome, or it is the last one.
abbrev pub IsHeldUp : Setup → OperatorPart → Type 0
IsHeldUp setup part = HasUnissued setup part ⊎ (((k : ℕ) × IsOpen setup part k) ⊎ (groups_in setup ≤ part.group + 1))

-- the group that begins has given the sessions of the routers that it empties to others, by the seats before it
abbrev pub GivesEmptiedSessions : Setup → OperatorPart → OperatorPart → Type 0
GivesEmptiedSessions setup before after = (g : ScriptGraft) (router : ℕ) → graft_at setup g.graft ≡ Some g
    → slice_get setup.steps g.step ≡ Some (EvacuateStep router) → group_of setup g.step ≡ after.group
    → after.given g.graft ≡ gift_to setup (placement setup before) router g.peering
