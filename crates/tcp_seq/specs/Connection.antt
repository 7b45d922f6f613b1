-- A connection: two endpoints that are joined only by the segments that each ever emitted, which may arrive in any order, any number of times or
-- never.
use Rattle.std.specs.Prelude.{ℕ, ◌≡◌, ◌⊎◌, ◌<◌, ◌≤◌, ◌+◌, ◌^◌, List, [], ◌∷◌, ◌++◌, length, take, drop, Contains, Some, slice_get}
use Rattle.std.specs.FinMap as map
use Rattle.tcp_seq.specs.Endpoint.{Endpoint, PlacedSegment, SendsBytes, EmitsSlice, EmitsEmpty, ReadsBytes}
use Rattle.tcp_seq.specs.Endpoint.{TakesSegment, fresh_endpoint, received, received_bytes}

-- an endpoint, and every segment that it ever emitted
pub record Side : Type 0 where
  pub end : Endpoint
  pub emitted : List PlacedSegment

pub record Connection : Type 0 where
  pub near : Side
  pub far : Side

-- nothing sent and nothing received
abbrev pub fresh_side : Side
fresh_side = record { end = fresh_endpoint; emitted = [] }

abbrev pub fresh_connection : Connection
fresh_connection = record { near = fresh_side; far = fresh_side }

-- The steps of a side

abbrev pub SideSends : Side → Side → Type 0
SideSends before after = (bytes : List ℕ) × SendsBytes before.end bytes after.end × (after.emitted ≡ before.emitted)

-- any slice, or the empty one
abbrev pub SideEmits : Side → Side → Type 0
SideEmits before after =
    (segment : PlacedSegment) × (EmitsSlice before.end segment after.end ⊎ EmitsEmpty before.end segment after.end)
    × (after.emitted ≡ before.emitted ++ segment ∷ [])

abbrev pub SideReads : Side → Side → Type 0
SideReads before after = (n : ℕ) × ReadsBytes before.end n after.end × (after.emitted ≡ before.emitted)

-- any segment that the other side ever emitted
abbrev pub SideTakes : List PlacedSegment → Side → Side → Type 0
SideTakes theirs before after =
    (segment : PlacedSegment) × Contains theirs segment × TakesSegment before.end segment after.end × (after.emitted ≡ before.emitted)

-- one side makes a step, when the other has emitted these segments
abbrev pub SideSteps : List PlacedSegment → Side → Side → Type 0
SideSteps theirs before after = SideSends before after ⊎ SideEmits before after ⊎ SideReads before after ⊎ SideTakes theirs before after

abbrev pub ConnectionStep : Connection → Connection → Type 0
ConnectionStep before after =
    (SideSteps before.far.emitted before.near after.near × (after.far ≡ before.far))
    ⊎ (SideSteps before.near.emitted before.far after.far × (after.near ≡ before.near))

-- steps from one connection, through those of a list, to the last
abbrev pub ConnectionRun : Connection → List Connection → Connection → Type 0
ConnectionRun before [] after = after ≡ before
ConnectionRun before (next ∷ rest) after = ConnectionStep before next × ConnectionRun next rest after

-- What each segment is that an endpoint emitted: a slice of its stream, which ends at or below the emitted length, has at most 1,024 bytes and
-- acknowledges at most what the endpoint received.
pub record IsEmittedBy (e : Endpoint) (segment : PlacedSegment) : Type 0 where
  pub within : segment.offset + length segment.bytes ≤ e.emitted
  pub short : length segment.bytes ≤ 1024
  pub bytes : segment.bytes ≡ take (length segment.bytes) (drop segment.offset e.stream)
  pub ack : segment.ack ≤ received e

-- one of the segments has this offset
pub record IsAmong (segments : List PlacedSegment) (offset : ℕ) : Type 0 where
  pub segment : PlacedSegment
  pub there : Contains segments segment
  pub from : segment.offset ≤ offset
  pub below : offset < segment.offset + length segment.bytes

-- What one endpoint has of the stream that another sends.
pub record Flows (from to : Endpoint) : Type 0 where
  -- the acknowledged length is at most the received length, which is at most the emitted length, which is at most the stream's length
  pub acked : from.acked ≤ received to
  pub within : received to ≤ from.emitted
  pub emitted : from.emitted ≤ length from.stream
  pub stream : length from.stream ≤ 2 ^ 20
  pub flight : from.emitted ≤ from.acked + 15360
  pub read : to.read ≤ received to
  -- the received bytes are the first ones of the stream, and each byte that arrived is the one that the stream has at its offset
  pub bytes : received_bytes to ≡ take (received to) from.stream
  pub arrived : (offset byte : ℕ) → map.get to.arrived offset ≡ Some byte → (offset < from.emitted) × (slice_get from.stream offset ≡ Some byte)

-- Two endpoints that are joined by segments, wherever these are: to each of them flows the stream of the other.
pub record AreLinked (x y : Endpoint) : Type 0 where
  pub there : Flows x y
  pub back : Flows y x

-- An endpoint that was linked with another has become one that is linked with it, and each segment that it emitted before still is one of its own.
pub record StaysLinked (before after other : Endpoint) : Type 0 where
  pub linked : AreLinked after other
  pub still : (segment : PlacedSegment) → IsEmittedBy before segment → IsEmittedBy after segment

-- What one side has of the stream that the other sends, and the segments that the other ever emitted; for each offset below the emitted length there
-- is one that has it.
pub record IsCarried (from to : Side) : Type 0 where
  pub flows : Flows from.end to.end
  pub segments : (segment : PlacedSegment) → Contains from.emitted segment → IsEmittedBy from.end segment
  pub all : (offset : ℕ) → offset < from.end.emitted → IsAmong from.emitted offset

-- what a connection keeps, in both directions
pub record IsConnection (c : Connection) : Type 0 where
  pub there : IsCarried c.near c.far
  pub back : IsCarried c.far c.near
