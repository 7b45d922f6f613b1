-- The actors of a laboratory as they begin.
use Rattle.std.specs.Prelude.{ℕ, ◌≡◌, ◌<◌, List, length, Some, slice_get, slice_index_or}
use Rattle.std.specs.List.{AllByRecursion}
use Rattle.link_bag.specs.declared.plan.Fault.{Fault}
use Rattle.graft_model.specs.Setups.{Setup}
use Rattle.graft_model.specs.First.{first_router, first_far, first_world}
use Rattle.graft_actors.specs.Actors.{ActorName, Router, FarSide, Operator, ActorPart, RouterIs, FarIs, OperatorIs, actor_at}
use Rattle.graft_actors.specs.Acts.{OwnPart}
use Rattle.world_nodes.specs.Fresh.{IsFresh}
use Rattle.world_nodes.specs.Nodes.{own, Works}
use Rattle.world_nodes.specs.declared.node.Node.{Node}

-- an actor's part of the first world
abbrev pub first_part : Setup → ActorName → ActorPart
first_part setup (Router r) = RouterIs (first_router setup r)
first_part setup (FarSide p) = FarIs (first_far (slice_get setup.peerings p))
first_part setup Operator = OperatorIs (first_world setup).operator

abbrev pub first_own : Setup → ActorName → OwnPart
first_own setup name = record { setup = setup; name = name; part = first_part setup name }

-- The actor of this name in a laboratory, as it begins, with the fates that these faults give to segments.
pub record IsFirstNode (setup : Setup) (faults : List Fault) (name : ActorName) (node : Node) : Type 0 where
  pub is : own node ≡ first_own setup name
  pub works : Works node
  pub fresh : IsFresh setup faults node

-- The first n actors of a laboratory, in the order of their numbers.
pub record AreFirstUpTo (setup : Setup) (faults : List Fault) (n : ℕ) (actors : List Node) : Type 0 where
  pub size : length actors ≡ n
  pub each : (k : ℕ) (d : Node) (x : ActorName) → k < n → actor_at setup k ≡ Some x → own (slice_index_or actors k d) ≡ first_own setup x
  pub works : AllByRecursion Works actors
  pub fresh : AllByRecursion (IsFresh setup faults) actors
