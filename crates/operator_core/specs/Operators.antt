-- The operator as its part of the world.
use Rattle.std.specs.Prelude.{ℕ, ◌≡◌, ◌↔◌, ◌≤◌, List, [], length}
use Rattle.ring_net.specs.Deeds.{Deed}
use Rattle.graft_steps.specs.declared.item.Item.{Item}
use Rattle.graft_model.specs.Setups.{Setup}
use Rattle.graft_model.specs.Parts.{OperatorPart}
use Rattle.graft_actors.specs.Acts.{OwnPart}
use Rattle.operator_core.specs.declared.operator.Operator.{Operator}
use Rattle.operator_state.specs.States.{part_of_state}
use Rattle.operator_core.specs.Progresses.{progress_state, own_part_of}
use Rattle.operator_core.specs.Turns.{BeginNoGroup}
use Rattle.operator_state.specs.Holds.{NothingToOrder, IsHeldUp}

-- the operator's laboratory, which is only for proofs
abbrev pub operator_setup : Operator → Setup
operator_setup op = op.progress.known.setup

-- its part of the world
abbrev pub operator_part : Operator → OperatorPart
operator_part op = part_of_state (progress_state op.progress)

-- its part, with the laboratory and its name there
abbrev pub own_part : Operator → OwnPart
own_part op = own_part_of (progress_state op.progress)

module _ {C : Type 0} where
  -- what a take promises: it is one event
  abbrev pub took_by_operator : Operator → ℕ → Item C → List (Deed (Item C)) → Operator → Type 0
  took_by_operator old from item deeds new = length deeds ≡ 1

  -- What a turn promises: it begins no group, and at its end no further task of the group may be issued.
  pub record OperatorTurned (old : Operator) (deeds : List (Deed (Item C))) (new : Operator) : Type 0 where
    pub no_go : BeginNoGroup deeds
    pub done : NothingToOrder (operator_setup old) (operator_part new)

  -- What a call at a mark promises: there is no event exactly if the next group may not begin, and one event otherwise.
  pub record Paused (old : Operator) (deeds : List (Deed (Item C))) (new : Operator) : Type 0 where
    pub held : (deeds ≡ []) ↔ IsHeldUp (operator_setup old) (operator_part old)
    pub few : length deeds ≤ 1
