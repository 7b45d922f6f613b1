-- How the parts and the numbered channels of a net are seen as a world.
use Rattle.std.specs.Prelude.{ℕ, ◌≡◌, ◌<◌, ◌+◌, List, [], Option, Some, map, slice_get}
use Rattle.ring_net.specs.Phases.{View}
use Rattle.journal_merge.specs.Worlds as worlds
use Rattle.journal_merge.specs.Growth.{IsWorldOf}
use Rattle.graft_model.specs.Setups.{Setup, PeeringSetup, routers_in, peerings_in}
use Rattle.graft_model.specs.Parts.{World}
use Rattle.graft_model.specs.First.{first_router, first_far, first_operator, first_world}
use Rattle.graft_actors.specs.Actors.{ActorPart, RouterIs, FarIs, OperatorIs, Thing, MeshItem, OutwardItem, SegmentItem, OrderItem}
use Rattle.graft_actors.specs.Actors.{ReportItem, StepItem, ActorName, Router, FarSide, Operator, IsActor, actor_at}

-- parts and channels by the numbers of the actors
abbrev pub Net : Type 0
Net = worlds.DeedWorld ActorPart Thing

abbrev pub part_of : World → ActorName → ActorPart
part_of w (Router r) = RouterIs (w.router r)
part_of w (FarSide p) = FarIs (w.far p)
part_of w Operator = OperatorIs w.operator

-- the items from one actor to another; no other two actors have a channel, and a number that is no actor's has none
abbrev pub channel_of : World → Option ActorName → Option ActorName → List Thing
channel_of w (Some (Router a)) (Some (Router b)) = map MeshItem (w.mesh a b)
channel_of w (Some (Router r)) (Some (FarSide p)) = map OutwardItem (w.outward r p)
channel_of w (Some (Router r)) (Some Operator) = map ReportItem (w.reports r)
channel_of w (Some (FarSide p)) (Some (Router r)) = map SegmentItem (w.inward p r)
channel_of w (Some Operator) (Some (Router r)) = map OrderItem (w.orders r)
channel_of w (Some Operator) (Some (FarSide p)) = map StepItem (w.says p)
channel_of w from to = []

-- Routers and peerings that the setup doesn't have are as in the first world, with nothing on its way.
pub record IsWithin (setup : Setup) (w : World) : Type 0 where
  pub parts : (x : ActorName) → (IsActor setup x → ⊥) → part_of w x ≡ part_of (first_world setup) x
  pub channels : (x y : ActorName) → (IsActor setup x → IsActor setup y → ⊥) → channel_of w (Some x) (Some y) ≡ []

-- The net is seen as the world: each actor's part and each channel is the world's.
pub record Sees (setup : Setup) (net : Net) (w : World) : Type 0 where
  pub parts : (n : ℕ) (x : ActorName) → actor_at setup n ≡ Some x → net.part n ≡ part_of w x
  pub channels : (a b : ℕ) → net.channel a b ≡ channel_of w (actor_at setup a) (actor_at setup b)
  pub within : IsWithin setup w

-- The actors of a view, and its channels wherever there is an edge, are those of a net that is seen as the world.
pub record SeesView {A : Type 0} (part : A → ActorPart) (setup : Setup) (view : View A Thing) (w : World) : Type 0 where
  pub net : Net
  pub is : IsWorldOf part view net
  pub sees : Sees setup net w

-- A net in which nothing has happened: the routers, then the far sides, then the operator, each as it begins, and nothing on its way.
pub record IsFirstNet (setup : Setup) (net : Net) : Type 0 where
  pub routers : (r : ℕ) → r < routers_in setup → net.part r ≡ RouterIs (first_router setup r)
  pub far_sides : (p : ℕ) (peering : PeeringSetup) → slice_get setup.peerings p ≡ Some peering
      → net.part (routers_in setup + p) ≡ FarIs (first_far (Some peering))
  pub operator : net.part (routers_in setup + peerings_in setup) ≡ OperatorIs (first_operator setup)
  pub channels : (a b : ℕ) → net.channel a b ≡ []
