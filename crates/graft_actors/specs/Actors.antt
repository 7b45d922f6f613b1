-- The actors of a laboratory by their numbers in a net, their parts, and the items that go between them.
use Rattle.std.specs.Prelude.{ℕ, ◌+◌, ◌-◌, ◌<◌, ◌==◌, nat_lt, if◌then◌else◌, Bool, true, false, Option, Some, None}
use Rattle.tcp_seq.specs.Endpoint.{PlacedSegment}
use Rattle.graft_model.specs.Setups.{Setup, routers_in, peerings_in}
use Rattle.graft_model.specs.Parts.{RouterPart, FarPart, OperatorPart, Mesh, Outward, GraftOrder, Report}

-- the part of the world that an actor is
pub data ActorPart : Type 0 where
  RouterIs : RouterPart → ActorPart
  FarIs : FarPart → ActorPart
  OperatorIs : OperatorPart → ActorPart

-- an item of any channel; the operator sends a far side the numbers of steps
pub data Thing : Type 0 where
  MeshItem : Mesh → Thing
  OutwardItem : Outward → Thing
  SegmentItem : PlacedSegment → Thing
  OrderItem : GraftOrder → Thing
  ReportItem : Report → Thing
  StepItem : (step : ℕ) → Thing

pub data ActorName : Type 0 where
  Router : ℕ → ActorName
  FarSide : (peering : ℕ) → ActorName
  Operator : ActorName

-- whether two names are those of one actor
abbrev pub same_name : ActorName → ActorName → Bool
same_name (Router q) (Router r) = q == r
same_name (FarSide p) (FarSide q) = p == q
same_name Operator Operator = true
same_name x y = false

-- the routers come first, then the far sides by their peerings, then the operator
abbrev pub number_in : Setup → ActorName → ℕ
number_in setup (Router r) = r
number_in setup (FarSide p) = routers_in setup + p
number_in setup Operator = routers_in setup + peerings_in setup

-- the setup has the router or the peering
abbrev pub IsActor : Setup → ActorName → Type 0
IsActor setup (Router r) = r < routers_in setup
IsActor setup (FarSide p) = p < peerings_in setup
IsActor setup Operator = Unit {0}

-- the actor of a number, if one has it
abbrev pub actor_at : Setup → ℕ → Option ActorName
actor_at setup n = if nat_lt n (routers_in setup) then Some (Router n)
    else if nat_lt n (routers_in setup + peerings_in setup) then Some (FarSide (n - routers_in setup))
    else if n == routers_in setup + peerings_in setup then Some Operator
    else None
