-- How a net of the program's actors, whose items are values of the program, is a world.
use Rattle.std.specs.Prelude.{ℕ, ◌≡◌, ◌<◌, ◌+◌, List, [], Option, Some, map, length, slice_get, slice_index_or}
use Rattle.std.specs.List.{AllByRecursion}
use Rattle.journal_merge.specs.Worlds as worlds
use Rattle.graft_steps.specs.declared.item.Item.{Item}
use Rattle.session_value.specs.Sessions.{SessionValue}
use Rattle.graft_model.specs.Setups.{Setup, PeeringSetup, routers_in, peerings_in}
use Rattle.graft_model.specs.Parts.{World}
use Rattle.graft_model.specs.First.{first_router, first_far, first_world}
use Rattle.graft_actors.specs.Actors.{RouterIs, FarIs, OperatorIs, ActorName, Router, FarSide, Operator, actor_at}
use Rattle.graft_actors.specs.Seen.{Net, Sees}
use Rattle.graft_actors.specs.Items.{thing_of, MayGo}
use Rattle.graft_actors.specs.Acts.{OwnPart}

-- how many actors a laboratory has
abbrev pub actors_in : Setup → ℕ
actors_in setup = routers_in setup + peerings_in setup + 1

module _ {C : Type 0} (session : C → SessionValue) where
  -- each item may go from the one actor to the other; if either doesn't exist, nothing is on its way
  abbrev pub AllMayGo : Setup → Option ActorName → Option ActorName → List (Item C) → Type 0
  AllMayGo setup (Some from) (Some to) items = AllByRecursion (MayGo session setup from to) items
  AllMayGo setup from to items = items ≡ []

  -- the net of the parts and things that actors and items stand for
  abbrev pub net_of : Setup → worlds.DeedWorld OwnPart (Item C) → Net
  net_of setup lab = record { part = λ n. (lab.part n).part; channel = λ a b. map (thing_of session setup) (lab.channel a b) }

  -- Each actor is of this laboratory and has its name, each item in a channel may go there, and the parts and items are those of the world.
  pub record IsLab (setup : Setup) (lab : worlds.DeedWorld OwnPart (Item C)) (w : World) : Type 0 where
    pub setups : (n : ℕ) (x : ActorName) → actor_at setup n ≡ Some x → (lab.part n).setup ≡ setup
    pub names : (n : ℕ) (x : ActorName) → actor_at setup n ≡ Some x → (lab.part n).name ≡ x
    pub fits : (a b : ℕ) → AllMayGo setup (actor_at setup a) (actor_at setup b) (lab.channel a b)
    pub sees : Sees setup (net_of setup lab) w

-- All actors of a laboratory, each as it begins: the routers, then the far sides in the order of their peerings, then the operator.
pub record AreFirstActors {A : Type 0} (own : A → OwnPart) (setup : Setup) (actors : List A) : Type 0 where
  pub all : length actors ≡ actors_in setup
  pub routers : (r : ℕ) (d : A) → r < routers_in setup
      → own (slice_index_or actors r d) ≡ record { setup = setup; name = Router r; part = RouterIs (first_router setup r) }
  pub far_sides : (p : ℕ) (d : A) (peering : PeeringSetup) → slice_get setup.peerings p ≡ Some peering
      → own (slice_index_or actors (routers_in setup + p) d) ≡ record { setup = setup; name = FarSide p; part = FarIs (first_far (Some peering)) }
  pub operator : (d : A)
      → own (slice_index_or actors (routers_in setup + peerings_in setup) d)
      ≡ record { setup = setup; name = Operator; part = OperatorIs (first_world setup).operator }
