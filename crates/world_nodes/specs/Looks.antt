-- What a stand of the net tells about the world that it is seen as.
use Rattle.std.specs.Prelude.{ℕ, ◌≡◌, ◌≢◌, ◌<◌, ◌⊎◌, List, [], Option, Some, None}
use Rattle.std.specs.Option.{option_map}
use Rattle.std.specs.List.{Any}
use Rattle.graft_edge.specs.declared.ids.PeeringId.{PeeringId}
use Rattle.graft_steps.specs.declared.rest.Pending.{Pending}
use Rattle.graft_steps.specs.declared.rest.Pending.TheVariants.{Channel}
use Rattle.graft_model.specs.Setups.{Setup, routers_in}
use Rattle.graft_model.specs.Parts.{World}
use Rattle.graft_laws.specs.Keeps.{Reached}
use Rattle.graft_actors.specs.Actors.{ActorPart, RouterIs, FarIs, OperatorIs, ActorName, Router, FarSide, Operator}
use Rattle.graft_actors.specs.Acts.{OwnPart}
use Rattle.bgp_session.specs.Running.{carried}
use Rattle.router_core.specs.Updates.{IsStuckAt}
use Rattle.settled_check.specs.Firsts.{IsFirstOf}
use Rattle.settled_check.specs.Left.{LeftAtRouter, LeftAtFar, LeftToOperator}
use Rattle.settled_check.specs.Worlds.{IsLeft}
use Rattle.world_runs.specs.Runs.{IsSeenAs}
use Rattle.world_nodes.specs.Nodes.{own}
use Rattle.world_nodes.specs.Ways.{Stand}

-- the world of a run as which a stand is seen
abbrev pub IsWorldAt : Setup → Stand → World → Type 0
IsWorldAt setup a w = IsSeenAs own carried setup a.view w × Reached setup w

-- ---- a stuck session

-- the lowest peering for which the property holds with some number, and that number, if there is one
abbrev pub IsLowest : (ℕ → ℕ → Type 0) → Option (ℕ × ℕ) → Type 0
IsLowest Is None = (p n : ℕ) → ¬ Is p n
IsLowest Is (Some x) = Is x.0 x.1 × ((p n : ℕ) → p < x.0 → ¬ Is p n)

-- the live session of a peering, at some router, is stuck at a length
pub record IsStuckIn (setup : Setup) (w : World) (p n : ℕ) : Type 0 where
  pub router : ℕ
  pub there : router < routers_in setup
  pub stuck : IsStuckAt setup router (w.router router) p n

-- the same at one actor: only a router has sessions
abbrev pub IsStuckBy : Setup → ActorName → ActorPart → ℕ → ℕ → Type 0
IsStuckBy setup (Router r) (RouterIs part) p n = IsStuckAt setup r part p n
IsStuckBy setup name part p n = ⊥

abbrev pub IsStuckWith : OwnPart → ℕ → ℕ → Type 0
IsStuckWith actor p n = IsStuckBy actor.setup actor.name actor.part p n

-- a peering and a length, as numbers
abbrev pub as_numbers : Option (PeeringId × ℕ) → Option (ℕ × ℕ)
as_numbers answer = option_map (λ x. (x.0.0, x.1)) answer

abbrev pub IsOneOf : Option (ℕ × ℕ) → Option (ℕ × ℕ) → ℕ → ℕ → Type 0
IsOneOf one other p n = (one ≡ Some (p, n)) ⊎ (other ≡ Some (p, n))

-- the property holds for the peering and the number at one of these actors
abbrev pub IsStuckAtOne : List OwnPart → ℕ → ℕ → Type 0
IsStuckAtOne actors p n = Any (λ actor. IsStuckWith actor p n) actors

-- ---- what is pending

-- the first thing that is left to do, by kinds and then by numbers
abbrev pub IsPending : Setup → World → Option Pending → Type 0
IsPending setup w answer = IsFirstOf (IsLeft setup w) answer

-- what is left to do for one actor
abbrev pub IsLeftBy : Setup → ActorName → ActorPart → Pending → Type 0
IsLeftBy setup (Router r) (RouterIs part) x = LeftAtRouter r part x
IsLeftBy setup (FarSide p) (FarIs part) x = LeftAtFar p part x
IsLeftBy setup Operator (OperatorIs part) x = LeftToOperator setup part x
IsLeftBy setup name part x = ⊥

abbrev pub IsLeftWith : OwnPart → Pending → Type 0
IsLeftWith actor x = IsLeftBy actor.setup actor.name actor.part x

-- it is left to do for one of these actors
abbrev pub IsLeftToOne : List OwnPart → Pending → Type 0
IsLeftToOne actors x = Any (λ actor. IsLeftWith actor x) actors

-- an item is on its way along one of these edges
abbrev pub IsSentOnOne : {I : Type 0} → (ℕ → ℕ → List I) → List (ℕ × ℕ) → Pending → Type 0
IsSentOnOne channel edges x = Any (λ edge. (x ≡ Channel edge.0 edge.1) × (channel edge.0 edge.1 ≢ [])) edges
