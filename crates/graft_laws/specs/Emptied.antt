-- Where the sessions of a router that is emptied go.
use Rattle.std.specs.Prelude.{ℕ, ◌≡◌, ◌≢◌, ◌≤◌, ◌<◌, false, List, ◌∷◌, ◌++◌, Some, slice_get}
use Rattle.graft_steps.specs.declared.refusal.Outcome.{Outcome}
use Rattle.graft_steps.specs.declared.refusal.Outcome.TheVariants.{Accepted, Refused}
use Rattle.graft_steps.specs.declared.refusal.Refusal.TheVariants.{RouterFull}
use Rattle.graft_model.specs.Setups.{Setup, EvacuateStep, ScriptGraft, group_of, graft_at}
use Rattle.graft_model.specs.Parts.{To, OperatorPart, World}
use Rattle.graft_model.specs.Placements.{is_accepted, placement}
use Rattle.graft_model.specs.Evacuations.{GivesByPlan}
use Rattle.graft_model.specs.First.{first_operator, first_world}
use Rattle.graft_model.specs.declared.event.OperatorEvent.TheVariants.{Go}
use Rattle.graft_model.specs.Steps.{Event, ByOperator, Step, Run}

-- Whenever a group begins among the events, each of its evacuate steps gives by plan.
abbrev pub GroupsGiveByPlan : Setup → World → List Event → Type 0
GroupsGiveByPlan setup first events = (begun rest : List Event) (before after : World) (step router : ℕ) → events ≡ begun ++ ByOperator Go ∷ rest
    → Run setup first begun before → Step setup (ByOperator Go) before after → slice_get setup.steps step ≡ Some (EvacuateStep router)
    → group_of setup step ≡ after.operator.group → GivesByPlan setup before.operator after.operator step router

-- Evacuate steps of the first group give by plan in the first world, and each later one as its group begins.
pub record GiveByPlan (setup : Setup) (events : List Event) : Type 0 where
  pub first : (step router : ℕ) → slice_get setup.steps step ≡ Some (EvacuateStep router) → group_of setup step ≡ 0
      → GivesByPlan setup (first_operator setup) (first_operator setup) step router
  pub later : GroupsGiveByPlan setup (first_world setup) events

-- no other step of the group of an evacuate step moves a session
abbrev pub EmptyAlone : Setup → Type 0
EmptyAlone setup = (step router : ℕ) (g : ScriptGraft) → slice_get setup.steps step ≡ Some (EvacuateStep router) → graft_at setup g.graft ≡ Some g
    → group_of setup g.step ≡ group_of setup step → g.step ≡ step

-- no later graft of the peering was accepted
abbrev pub IsLastAccepted : Setup → OperatorPart → ScriptGraft → Type 0
IsLastAccepted setup operator g =
    (other : ScriptGraft) → graft_at setup other.graft ≡ Some other → other.peering ≡ g.peering → g.graft < other.graft
    → is_accepted (operator.outcome other.graft) ≡ false

-- How a graft that an evacuate step gave to a target has ended. It isn't refused for lack of room, and if it was accepted and no later one was, the
-- session belongs at the target.
pub record HasLeft (setup : Setup) (operator : OperatorPart) (g : ScriptGraft) (target : ℕ) : Type 0 where
  pub outcome : Outcome
  pub ended : operator.outcome g.graft ≡ Some outcome
  pub had_room : (room : ℕ) → outcome ≢ Refused (RouterFull room)
  pub placed : outcome ≡ Accepted → IsLastAccepted setup operator g → placement setup operator g.peering ≡ target

-- All grafts that evacuate steps made in the groups that have begun end like this.
abbrev pub AreEmptied : Setup → OperatorPart → Type 0
AreEmptied setup operator = (g : ScriptGraft) (router target : ℕ) → graft_at setup g.graft ≡ Some g → slice_get setup.steps g.step ≡ Some (EvacuateStep router)
    → group_of setup g.step ≤ operator.group → operator.given g.graft ≡ To target → HasLeft setup operator g target
