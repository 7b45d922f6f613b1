-- What an item of the program stands for in the world, and what may go from one actor to another.
use Rattle.std.specs.Prelude.{ℕ, ◌≡◌, ◌<◌, ◌^◌, length}
use Rattle.std.specs.Option.{option_map, unwrap_or}
use Rattle.tcp_seq.specs.declared.segment.Segment.{Segment}
use Rattle.tcp_seq.specs.declared.segment.Way.{Way}
use Rattle.tcp_seq.specs.declared.segment.Way.TheVariants.{Home, Remote}
use Rattle.tcp_seq.specs.Endpoint.{PlacedSegment, IsInStreams}
use Rattle.tcp_seq.specs.Placed.{placed}
use Rattle.graft_steps.specs.declared.item.Item.{Item}
use Rattle.graft_steps.specs.declared.item.Item.TheVariants as items
use Rattle.bgp_types.specs.declared.message.SessionState.TheVariants.{Established}
use Rattle.session_value.specs.Sessions.{SessionValue, state}
use Rattle.graft_model.specs.Setups.{Setup, config_of}
use Rattle.graft_model.specs.Parts.{Told, Moved, Back, Asked, Answered, Done, Seg, PointAt}
use Rattle.graft_actors.specs.Actors.{Thing, MeshItem, OutwardItem, SegmentItem, OrderItem, ReportItem, StepItem, ActorName, Router, FarSide, Operator}

-- the initial sequence number of a peering's home side, and that of its remote
abbrev pub home_first : Setup → ℕ → ℕ
home_first setup p = unwrap_or (option_map (λ config. config.send_first.0) (config_of setup p)) 0

abbrev pub remote_first : Setup → ℕ → ℕ
remote_first setup p = unwrap_or (option_map (λ config. config.receive_first.0) (config_of setup p)) 0

-- the segment over whole numbers: one to the remote carries bytes of the home side's stream, one to home bytes of the remote's
abbrev pub placed_for : Way → ℕ → ℕ → Segment → PlacedSegment
placed_for Remote home remote g = placed home remote g
placed_for Home home remote g = placed remote home g

abbrev pub segment_of : Setup → Segment → PlacedSegment
segment_of setup g = placed_for g.way (home_first setup g.peering.0) (remote_first setup g.peering.0) g

abbrev pub segment_thing : Way → PlacedSegment → Thing
segment_thing Remote segment = OutwardItem (Seg segment)
segment_thing Home segment = SegmentItem segment

-- What an item stands for in the world, given the session that a capsule carries.
abbrev pub thing_of : {C : Type 0} (session : C → SessionValue) → Setup → Item C → Thing
thing_of session setup (items.Seg g) = segment_thing g.way (segment_of setup g)
thing_of session setup (items.PointAt k) = OutwardItem (PointAt k)
thing_of session setup (items.Told prefix route) = MeshItem (Told prefix route)
thing_of session setup (items.Moved k capsule) = MeshItem (Moved k (session capsule).config.peering.0 (session capsule))
thing_of session setup (items.Back k capsule refusal) = MeshItem (Back k (session capsule).config.peering.0 (session capsule) refusal)
thing_of session setup (items.Asked k peering) = MeshItem (Asked k peering.0)
thing_of session setup (items.Answered k peering) = MeshItem (Answered k peering.0)
thing_of session setup (items.Done k peering) = MeshItem (Done k peering.0)
thing_of session setup (items.GraftOrder k peering target) = OrderItem (record { graft = k; peering = peering.0; target = target.0 })
thing_of session setup (items.Report k outcome) = ReportItem (record { graft = k; outcome = outcome })
thing_of session setup (items.SayOrder step) = StepItem step

-- ---- from whom to whom

-- A segment of this peering goes this way, with less than 65,536 bytes, and its sequence numbers are within streams of at most 1 MiB or a window at
-- their end.
pub record IsSegmentOf (setup : Setup) (p : ℕ) (side : Way) (g : Segment) : Type 0 where
  pub peering : g.peering.0 ≡ p
  pub way : g.way ≡ side
  pub len : length g.bytes < 2 ^ 16
  pub placed : IsInStreams (segment_of setup g)

-- A session that is on its way is established, and its streams have the initial sequence numbers of its peering.
pub record IsOnItsWay (setup : Setup) (session : SessionValue) : Type 0 where
  pub established : state session ≡ Established
  pub sends : session.config.send_first.0 ≡ home_first setup session.config.peering.0
  pub receives : session.config.receive_first.0 ≡ remote_first setup session.config.peering.0

-- An item may go from one actor to another: between routers what they tell, sessions on their way, questions, answers and word of landings; between a
-- router and a far side segments of its peering, and word of landings to the far side; from the operator orders, and reports to it.
abbrev pub MayGo : {C : Type 0} (session : C → SessionValue) → Setup → ActorName → ActorName → Item C → Type 0
MayGo session setup (Router q) (Router r) (items.Told prefix route) = Unit {0}
MayGo session setup (Router q) (Router r) (items.Moved k capsule) = IsOnItsWay setup (session capsule)
MayGo session setup (Router q) (Router r) (items.Back k capsule refusal) = IsOnItsWay setup (session capsule)
MayGo session setup (Router q) (Router r) (items.Asked k peering) = Unit {0}
MayGo session setup (Router q) (Router r) (items.Answered k peering) = Unit {0}
MayGo session setup (Router q) (Router r) (items.Done k peering) = Unit {0}
MayGo session setup (Router r) (FarSide p) (items.Seg g) = IsSegmentOf setup p Remote g
MayGo session setup (Router r) (FarSide p) (items.PointAt k) = Unit {0}
MayGo session setup (FarSide p) (Router r) (items.Seg g) = IsSegmentOf setup p Home g
MayGo session setup (Router r) Operator (items.Report k outcome) = Unit {0}
MayGo session setup Operator (Router r) (items.GraftOrder k peering target) = Unit {0}
MayGo session setup Operator (FarSide p) (items.SayOrder step) = Unit {0}
MayGo session setup from to item = ⊥
