-- A segment by the offset and the length that an event names.
use Rattle.std.specs.Prelude.{ℕ, ◌≡◌, ◌⊎◌, length}
use Rattle.tcp_seq.specs.Endpoint.{Endpoint, PlacedSegment, EmitsSlice, EmitsEmpty}

-- A slice of `len` bytes of the stream is emitted, or the empty one at the offset that is emitted next (RFC 9293, section 3.8).
pub record EmitsAt (from len : ℕ) (before : Endpoint) (segment : PlacedSegment) (after : Endpoint) : Type 0 where
  pub offset : segment.offset ≡ from
  pub size : length segment.bytes ≡ len
  pub emits : EmitsSlice before segment after ⊎ EmitsEmpty before segment after
