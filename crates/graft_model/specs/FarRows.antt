-- The events of a far side: what the remote says and sends, what the link holds, loses and delivers, and where it points.
use Rattle.std.specs.Prelude.{◌≡◌, ℕ, ◌+◌, ◌%◌, ◌^◌, ◌<◌, ◌≤◌, List, [], ◌∷◌, ◌++◌, length, take, drop, Option, Some}
use Rattle.std.specs.Prelude.{None, Bool, false, max, nat_lt, if◌then◌else◌, slice_get, option_map}
use Rattle.bgp_types.specs.declared.message.Message.TheVariants.{KeepaliveMsg}
use Rattle.bgp_types.specs.Spelling.{spell}
use Rattle.tcp_seq.specs.Endpoint.{Endpoint, PlacedSegment, TakesSegment}
use Rattle.tcp_seq.specs.declared.segment.Way.{Way}
use Rattle.tcp_seq.specs.declared.segment.Way.TheVariants.{Home, Remote}
use Rattle.session_value.specs.Cases.{sending}
use Rattle.graft_model.specs.Slices.{EmitsAt}
use Rattle.graft_model.specs.Setups.{Setup, SayStep, keepalive_interval_of, routers_in}
use Rattle.graft_model.specs.Parts.{FarPart, Outward, Seg, PointAt}

-- an item that a far side may take: the next item of a router's channel, or the next step of the operator's
pub data FarTaken : Type 0 where
  OutwardIn : (router : ℕ) → Outward → FarTaken
  SayIn : (step : ℕ) → FarTaken

-- A far side sends segments, each to a router.
pub record FarSent : Type 0 where
  pub router : ℕ
  pub segment : PlacedSegment

abbrev pub link : FarPart → Way → List PlacedSegment
link part Home = part.homeward
link part Remote = part.remoteward

abbrev pub with_link : FarPart → Way → List PlacedSegment → FarPart
with_link part Home segments = record part { homeward = segments }
with_link part Remote segments = record part { remoteward = segments }

-- a list without its member at an index
abbrev pub without : {A : Type 0} → ℕ → List A → List A
without index items = take index items ++ drop (index + 1) items

-- what a link holds after a delivery: everything if the segment is kept to be delivered again
abbrev pub left_by : Bool → ℕ → List PlacedSegment → List PlacedSegment
left_by keep index segments = if keep then segments else without index segments

-- An ordered step of this remote is said. A stream has at most 1 MiB.
pub record Says (setup : Setup) (p step : ℕ) (before : FarPart) (taken : Option FarTaken) (sent : List FarSent) (after : FarPart) : Type 0 where
  pub bytes : List ℕ
  pub is : slice_get setup.steps step ≡ Some (SayStep p bytes)
  pub takes : taken ≡ Some (SayIn step)
  pub sends : sent ≡ []
  pub room : length before.end.stream + length bytes ≤ 2 ^ 20
  pub effect : after ≡ record before { end = sending bytes before.end }

-- The remote says a KEEPALIVE in a round that is a multiple of its interval (RFC 4271, section 4.4). The stream has room, as the number of them is
-- limited.
pub record Beats (setup : Setup) (p round : ℕ) (before : FarPart) (taken : Option FarTaken) (sent : List FarSent) (after : FarPart) : Type 0 where
  pub keepalive_interval : ℕ
  pub is : option_map keepalive_interval_of (slice_get setup.peerings p) ≡ Some keepalive_interval
  pub some : 0 < keepalive_interval
  pub multiple : round % keepalive_interval ≡ 0
  pub later : before.last_keepalive < round
  pub few : before.keepalives < 27594
  pub takes : taken ≡ None
  pub sends : sent ≡ []
  pub effect : after ≡ record before { end = sending (spell KeepaliveMsg false) before.end; keepalives = before.keepalives + 1; last_keepalive = round }

-- A slice of what was said, or a segment without bytes at the offset that is emitted next, goes into the link.
pub record SendsSegment (from len : ℕ) (before : FarPart) (taken : Option FarTaken) (sent : List FarSent) (after : FarPart) : Type 0 where
  pub segment : PlacedSegment
  pub end : Endpoint
  pub emits : EmitsAt from len before.end segment end
  pub takes : taken ≡ None
  pub sends : sent ≡ []
  pub effect : after ≡ record before { end = end; homeward = before.homeward ++ segment ∷ [] }

-- The next segment of a router goes into the link.
pub record TakesIn (router : ℕ) (before : FarPart) (taken : Option FarTaken) (sent : List FarSent) (after : FarPart) : Type 0 where
  pub segment : PlacedSegment
  pub takes : taken ≡ Some (OutwardIn router (Seg segment))
  pub sends : sent ≡ []
  pub effect : after ≡ record before { remoteward = before.remoteward ++ segment ∷ [] }

-- Any segment of the link to home is delivered to any router; it stays in the link if it is kept.
pub record Passes (setup : Setup) (index : ℕ) (keep : Bool) (router : ℕ) (before : FarPart)
    (taken : Option FarTaken) (sent : List FarSent) (after : FarPart) : Type 0 where
  pub segment : PlacedSegment
  pub there : slice_get before.homeward index ≡ Some segment
  pub known : router < routers_in setup
  pub takes : taken ≡ None
  pub sends : sent ≡ record { router = router; segment = segment } ∷ []
  pub effect : after ≡ record before { homeward = left_by keep index before.homeward }

-- Any segment of the link to the remote reaches it; it stays in the link if it is kept.
pub record Reaches (index : ℕ) (keep : Bool) (before : FarPart) (taken : Option FarTaken) (sent : List FarSent) (after : FarPart) : Type 0 where
  pub segment : PlacedSegment
  pub there : slice_get before.remoteward index ≡ Some segment
  pub end : Endpoint
  pub arrives : TakesSegment before.end segment end
  pub takes : taken ≡ None
  pub sends : sent ≡ []
  pub effect : after ≡ record before { end = end; remoteward = left_by keep index before.remoteward }

-- Any segment of a link is lost.
pub record Loses (way : Way) (index : ℕ) (before : FarPart) (taken : Option FarTaken) (sent : List FarSent) (after : FarPart) : Type 0 where
  pub there : index < length (link before way)
  pub takes : taken ≡ None
  pub sends : sent ≡ []
  pub effect : after ≡ with_link before way (without index (link before way))

-- Word that a session landed at a router turns the link there, if it is of a later graft than the last word that was followed.
pub record TurnsLink (router : ℕ) (before : FarPart) (taken : Option FarTaken) (sent : List FarSent) (after : FarPart) : Type 0 where
  pub graft : ℕ
  pub takes : taken ≡ Some (OutwardIn router (PointAt graft))
  pub sends : sent ≡ []
  pub effect : after ≡ record before {
    pointer = if nat_lt before.followed graft then router else before.pointer;
    followed = max before.followed graft;
  }
