-- The endpoint of a connection over whole numbers: it has offsets of streams instead of numbers that wrap around, and the byte that each offset of the
-- other stream got first instead of buffers (RFC 9293, sections 3.4, 3.8 and 3.10.7.4, with this project's window, flight, payload and retransmission
-- turn).
use Rattle.std.specs.Prelude.{ℕ, ◌≡◌, ◌⊎◌, ◌<◌, ◌≤◌, ◌+◌, ◌-◌, ◌^◌, ◌==◌, ◌||◌, ◌&&◌, nat_lt, nat_le, min, max, if◌then◌else◌, Bool}
use Rattle.std.specs.Prelude.{true, false, List, [], ◌∷◌, ◌++◌, length, take, drop, Option, None, IsSome, slice_get}
use Rattle.std.specs.Option.{option_or}
use Rattle.std.specs.Ordering.{nat_cmp}
use Rattle.std.specs.FinMap as map
use Rattle.tcp_seq.specs.declared.rules.AckKind.TheVariants.{Beyond}
use Rattle.tcp_seq.specs.Rules.{AcceptableOffset, IsOffsetAck, IsInStream}

-- bytes by their offsets in a stream
abbrev pub Bytes : Type 0
Bytes = map.FinMap nat_cmp ℕ

-- the stream that it sends, how much of it was emitted and acknowledged, the bytes of the other stream that arrived, how many of
-- them were read, and whether an answer is owed
pub record Endpoint : Type 0 where
  pub stream : List ℕ
  pub emitted : ℕ
  pub acked : ℕ
  pub arrived : Bytes
  pub read : ℕ
  pub owed : Bool

-- an offset, the bytes from there on, and an acknowledged length
pub record PlacedSegment : Type 0 where
  pub offset : ℕ
  pub bytes : List ℕ
  pub ack : ℕ

-- nothing sent and nothing received
abbrev pub fresh_endpoint : Endpoint
fresh_endpoint = record { stream = []; emitted = 0; acked = 0; arrived = map.empty; read = 0; owed = false }

-- the greatest n such that all offsets below n have a byte
pub record IsReceived (arrived : Bytes) (n : ℕ) : Type 0 where
  pub all : (k : ℕ) → k < n → IsSome (map.get arrived k)
  pub greatest : (m : ℕ) → ((k : ℕ) → k < m → IsSome (map.get arrived k)) → m ≤ n

-- the bytes of entries in ascending order of offset, as far as the offsets go on from n without a gap
abbrev pub run_from : ℕ → List (ℕ × ℕ) → List ℕ
run_from n [] = []
run_from n (e ∷ es) = if e.0 == n then e.1 ∷ run_from (n + 1) es else []

-- the bytes that stand from offset 0 on without a gap
abbrev pub bytes_in_order : Bytes → List ℕ
bytes_in_order arrived = run_from 0 (map.entries arrived)

-- the received bytes, the received length, and what is ready to be read: the received bytes behind those that were read
abbrev pub received_bytes : Endpoint → List ℕ
received_bytes e = bytes_in_order e.arrived

abbrev pub received : Endpoint → ℕ
received e = length (received_bytes e)

abbrev pub ready_bytes : Endpoint → List ℕ
ready_bytes e = drop e.read (received_bytes e)

-- the segment with this many bytes of the stream from an offset on, and the received length at this moment
abbrev pub slice_at : Endpoint → ℕ → ℕ → PlacedSegment
slice_at e offset len = record { offset = offset; bytes = take len (drop offset e.stream); ack = received e }

-- how many bytes the next slice has: those that are unsent and fit in the flight of 15,360, at most 1,024
abbrev pub next_length : Endpoint → ℕ
next_length e = min 1024 (min (length e.stream - e.emitted) (e.acked + 15360 - e.emitted))

-- how many bytes are sent again: what is outstanding, at most 1,024
abbrev pub again_length : Endpoint → ℕ
again_length e = min 1024 (e.emitted - e.acked)

-- Bytes are sent: they are added at the stream's end, and the stream has at most 1 MiB.
pub record SendsBytes (before : Endpoint) (bytes : List ℕ) (after : Endpoint) : Type 0 where
  pub fits : length before.stream + length bytes ≤ 2 ^ 20
  pub sent : after ≡ record before { stream = before.stream ++ bytes }

-- The next slice is emitted.
pub record EmitsNext (before : Endpoint) (segment : PlacedSegment) (after : Endpoint) : Type 0 where
  pub some : 0 < next_length before
  pub slice : segment ≡ slice_at before before.emitted (next_length before)
  pub rises : after ≡ record before { emitted = before.emitted + next_length before }

-- At a retransmission turn the first outstanding slice is emitted again.
pub record EmitsAgain (before : Endpoint) (segment : PlacedSegment) (after : Endpoint) : Type 0 where
  pub some : 0 < again_length before
  pub slice : segment ≡ slice_at before before.acked (again_length before)
  pub stays : after ≡ before

-- A segment without bytes is emitted, at the offset that is emitted next. Then no answer is owed.
pub record EmitsEmpty (before : Endpoint) (segment : PlacedSegment) (after : Endpoint) : Type 0 where
  pub empty : segment ≡ slice_at before before.emitted 0
  pub given : after ≡ record before { owed = false }

-- An owed answer is given.
pub record EmitsAnswer (before : Endpoint) (segment : PlacedSegment) (after : Endpoint) : Type 0 where
  pub owed : before.owed ≡ true
  pub answer : EmitsEmpty before segment after

-- Any slice is emitted that begins at an offset from the acknowledged to the emitted one, has 1 to 1,024 bytes, and ends within the stream and within
-- the flight of 15,360 from the acknowledged offset on.
pub record EmitsSlice (before : Endpoint) (segment : PlacedSegment) (after : Endpoint) : Type 0 where
  pub from : before.acked ≤ segment.offset
  pub to : segment.offset ≤ before.emitted
  pub some : 0 < length segment.bytes
  pub short : length segment.bytes ≤ 1024
  pub within : segment.offset + length segment.bytes ≤ length before.stream
  pub flight : segment.offset + length segment.bytes ≤ before.acked + 15360
  pub slice : segment ≡ slice_at before segment.offset (length segment.bytes)
  pub rises : after ≡ record before { emitted = max before.emitted (segment.offset + length segment.bytes) }

-- Bytes that are ready are read.
pub record ReadsBytes (before : Endpoint) (n : ℕ) (after : Endpoint) : Type 0 where
  pub there : before.read + n ≤ received before
  pub read : after ≡ record before { read = before.read + n }

-- what an arriving segment is checked against: the offset expected next, and a window of 16,384
abbrev pub IsAcceptable : Endpoint → PlacedSegment → Type 0
IsAcceptable e segment = AcceptableOffset (received e) 16384 segment.offset (length segment.bytes)

abbrev pub IsBeyond : Endpoint → PlacedSegment → Type 0
IsBeyond e segment = IsOffsetAck Beyond e.acked e.emitted segment.ack

-- the byte at an offset, among bytes that stand from an offset on
abbrev pub byte_from : ℕ → List ℕ → ℕ → Option ℕ
byte_from offset bytes k = if nat_lt k offset then None else slice_get bytes (k - offset)

-- the byte that a segment brings to an offset: the one that it has for it, if the offset is in the window
abbrev pub byte_brought : Endpoint → PlacedSegment → ℕ → Option ℕ
byte_brought e segment offset =
    if nat_le (received e) offset && nat_lt offset (received e + 16384) then byte_from segment.offset segment.bytes offset else None

-- A segment that isn't acceptable, or that acknowledges what wasn't emitted, is dropped. An answer is owed.
pub record DropsSegment (before : Endpoint) (segment : PlacedSegment) (after : Endpoint) : Type 0 where
  pub cause : (¬ IsAcceptable before segment) ⊎ IsBeyond before segment
  pub stays : after ≡ record before { owed = true }

-- Any other segment is accepted: the acknowledged length rises to the segment's if that is above, each offset keeps its byte or else gets the one that
-- is brought to it, and an answer is owed if the segment has bytes.
pub record AcceptsSegment (before : Endpoint) (segment : PlacedSegment) (after : Endpoint) : Type 0 where
  pub acceptable : IsAcceptable before segment
  pub within : ¬ IsBeyond before segment
  pub arrived : (offset : ℕ) → map.get after.arrived offset ≡ option_or (map.get before.arrived offset) (byte_brought before segment offset)
  pub changed : after ≡ record before {
    acked = max before.acked segment.ack;
    arrived = after.arrived;
    owed = before.owed || nat_lt 0 (length segment.bytes);
  }

-- A segment arrives, whoever made it and whatever bytes it has.
abbrev pub TakesSegment : Endpoint → PlacedSegment → Endpoint → Type 0
TakesSegment before segment after = DropsSegment before segment after ⊎ AcceptsSegment before segment after

-- an endpoint that is left when a segment arrives
pub record IsTaken (before : Endpoint) (segment : PlacedSegment) : Type 0 where
  pub after : Endpoint
  pub takes : TakesSegment before segment after

-- A segment's offsets, and the length that it acknowledges, are those of streams of at most 1 MiB, or of a window at their end.
pub record IsInStreams (segment : PlacedSegment) : Type 0 where
  pub end : IsInStream (segment.offset + length segment.bytes)
  pub ack : IsInStream segment.ack
