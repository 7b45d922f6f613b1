-- A far side as the model has it, and the invariant of its fields.
use Rattle.std.specs.Prelude.{ℕ, ◌≡◌, ◌<◌, ◌≤◌, Some, option_map, slice_get}
use Rattle.std.specs.List.{AllByRecursion}
use Rattle.tcp_seq.specs.declared.segment.Way.{Way}
use Rattle.tcp_seq.specs.declared.segment.Way.TheVariants.{Home, Remote}
use Rattle.session_value.specs.Sessions.{SessionValue}
use Rattle.graft_model.specs.Setups.{keepalive_interval_of, routers_in, peerings_in}
use Rattle.graft_model.specs.Parts.{FarPart}
use Rattle.graft_actors.specs.Actors.{FarSide, FarIs}
use Rattle.graft_actors.specs.Items.{home_first, remote_first}
use Rattle.graft_actors.specs.Acts.{OwnPart}
use Rattle.far_side.specs.Links.{LinkValue}
use Rattle.actor_configs.specs.Says.{bytes_at, say_by}
use Rattle.far_side.specs.declared.fields.Fields.{Fields}

abbrev pub far_part : Fields → FarPart
far_part f = record {
  end = f.remote.end;
  homeward = f.homeward.segments;
  remoteward = f.remoteward.segments;
  pointer = f.pointer.0;
  followed = f.followed;
  keepalives = f.keepalives;
  last_keepalive = f.last_keepalive;
}

abbrev pub own_part : Fields → OwnPart
own_part f = record { setup = f.known.setup; name = FarSide f.peering.0; part = FarIs (far_part f) }

-- one of two values, by the side that a link leads to
abbrev pub by_way : {A : Type 0} → Way → (home remote : A) → A
by_way Home home remote = home
by_way Remote home remote = remote

-- the link to one side, and the fields with another link there
abbrev pub link_to : Fields → Way → LinkValue
link_to f way = by_way way f.homeward f.remoteward

abbrev pub with_link : Fields → Way → LinkValue → Fields
with_link f way link = record f { homeward = by_way way link f.homeward; remoteward = by_way way f.remoteward link }

-- a link leads this way, and has these initial sequence numbers
pub record LinkLeads (link : LinkValue) (to : Way) (p first other : ℕ) : Type 0 where
  pub way : link.way ≡ to
  pub peering : link.peering ≡ p
  pub seq_first : link.seq_first ≡ first
  pub ack_first : link.ack_first ≡ other

-- both links are those of its peering, one each way
pub record HasLinks (f : Fields) : Type 0 where
  pub homeward : (f.homeward.way ≡ Home) × (f.homeward.peering ≡ f.peering.0)
  pub remoteward : (f.remoteward.way ≡ Remote) × (f.remoteward.peering ≡ f.peering.0)

pub record FarSideInvariant (f : Fields) : Type 0 where
  -- the configuration is its laboratory's
  pub routers : f.routers ≡ routers_in f.known.setup
  pub few : f.routers ≤ 256
  pub peerings : f.peerings ≡ peerings_in f.known.setup
  pub there : f.peering.0 < peerings_in f.known.setup
  pub keepalive_interval : option_map keepalive_interval_of (slice_get f.known.setup.peerings f.peering.0) ≡ Some f.keepalive_interval
  pub says : (step : ℕ) → bytes_at f.says step ≡ say_by f.peering.0 (slice_get f.known.setup.steps step)
  -- the remote and both links are its peering's
  pub remote : f.remote.peering ≡ f.peering.0
  pub sends : f.remote.send_first ≡ remote_first f.known.setup f.peering.0
  pub receives : f.remote.receive_first ≡ home_first f.known.setup f.peering.0
  pub homeward : LinkLeads f.homeward Home f.peering.0 (remote_first f.known.setup f.peering.0) (home_first f.known.setup f.peering.0)
  pub remoteward : LinkLeads f.remoteward Remote f.peering.0 (home_first f.known.setup f.peering.0) (remote_first f.known.setup f.peering.0)
  -- the link points, and pointed, at existing routers
  pub pointer : f.pointer.0 < routers_in f.known.setup
  pub pointed : AllByRecursion (λ x. x.pointed.0 < routers_in f.known.setup) f.homeward.plans

-- something holds whatever session a capsule stands for, and the far side is sound
pub record ForEach {C : Type 0} (P : (C → SessionValue) → Type 0) (far : Fields) : Type 0 where
  pub keeps : FarSideInvariant far
  pub each : (session : C → SessionValue) → P session
