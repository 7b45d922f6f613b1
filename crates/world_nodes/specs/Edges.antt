-- Which actors have a channel to which.
use Rattle.std.specs.Prelude.{ℕ, ◌≡◌, ◌≤◌, ◌==◌, ◌&&◌, ◌||◌, Bool, true, false, not, List, Option, Some}
use Rattle.ring_net.specs.Phases.{is_edge}
use Rattle.ring_net.specs.Fresh.{AreEdges}
use Rattle.graft_model.specs.Setups.{Setup, routers_in, peerings_in}
use Rattle.graft_actors.specs.Actors.{ActorName, Router, FarSide, Operator, actor_at}
use Rattle.world_runs.specs.Labs.{actors_in}

-- Each way between two routers, between a router and a far side, and between a router and the operator, and from the operator to each far side.
abbrev pub talks : Option ActorName → Option ActorName → Bool
talks (Some (Router q)) (Some (Router r)) = not (q == r)
talks (Some (Router r)) (Some (FarSide p)) = true
talks (Some (FarSide p)) (Some (Router r)) = true
talks (Some (Router r)) (Some Operator) = true
talks (Some Operator) (Some (Router r)) = true
talks (Some Operator) (Some (FarSide p)) = true
talks from to = false

-- whether the actor of one number has a channel to that of another
abbrev pub has_channel : Setup → ℕ → ℕ → Bool
has_channel setup a b = talks (actor_at setup a) (actor_at setup b)

-- the edges of a laboratory's net
pub record AreEdgesOf (setup : Setup) (edges : List (ℕ × ℕ)) : Type 0 where
  pub sound : AreEdges (actors_in setup) edges
  pub each : (a b : ℕ) → is_edge edges a b ≡ has_channel setup a b

-- the laboratory has these numbers of routers and peerings
pub record HasCounts (setup : Setup) (counts : ℕ × ℕ) : Type 0 where
  pub routers : routers_in setup ≡ counts.0
  pub peerings : peerings_in setup ≡ counts.1

-- the edges from one more actor are added
abbrev pub AddsEdgesFrom : Setup → ℕ → List (ℕ × ℕ) → List (ℕ × ℕ) → Type 0
AddsEdgesFrom setup from old new = (a b : ℕ) → is_edge new a b ≡ (is_edge old a b || (a == from && has_channel setup a b))

-- no edge leads from this actor, or from a later one
abbrev pub NoneFrom : ℕ → List (ℕ × ℕ) → Type 0
NoneFrom from edges = (a b : ℕ) → from ≤ a → is_edge edges a b ≡ false
