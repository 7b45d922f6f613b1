-- Any slice of the stream that an end sends, by the offset and the length that a caller names.
use Rattle.std.specs.Prelude.{ℕ, ◌≡◌, ◌⊎◌, ◌<◌, ◌≤◌, ◌+◌, ◌==◌, max, if◌then◌else◌, length, false}
use Rattle.tcp_seq.specs.Endpoint.{Endpoint, PlacedSegment, EmitsSlice, EmitsEmpty}
use Rattle.tcp_seq.specs.declared.state.EndState.{EndState}
use Rattle.tcp_end.specs.State.{stream_length}
use Rattle.tcp_end.specs.Standing.{EndStands}

-- A slice with bytes begins at an offset from the acknowledged to the emitted one, has at most 1,024 bytes, and ends within the stream and within the
-- flight of 15,360 from the acknowledged offset on.
pub record IsSlice (s : EndState) (from len : ℕ) : Type 0 where
  pub acked : s.acked ≤ from
  pub emitted : from ≤ s.sent
  pub some : 0 < len
  pub short : len ≤ 1024
  pub within : from + len ≤ stream_length s
  pub flight : from + len ≤ s.acked + 15360

-- one without bytes stands at the offset that is emitted next
abbrev pub IsEmptySlice : EndState → ℕ → ℕ → Type 0
IsEmptySlice s from len = (from ≡ s.sent) × (len ≡ 0)

abbrev pub CanEmit : EndState → ℕ → ℕ → Type 0
CanEmit s from len = IsSlice s from len ⊎ IsEmptySlice s from len

-- what the slice leaves: no answer is owed after one without bytes, and any other counts as emitted up to its end
abbrev pub emitted_at : EndState → ℕ → ℕ → EndState
emitted_at s from len = if len == 0 then record s { owed = false } else record s { sent = max s.sent (from + len) }

-- an endpoint emits a segment of this length from this offset on: a slice of its stream, or the empty one at the offset that is emitted next
abbrev pub EmitsPart : (from len : ℕ) → Endpoint → PlacedSegment → Endpoint → Type 0
EmitsPart from len before segment after =
    (segment.offset ≡ from) × (length segment.bytes ≡ len) × (EmitsSlice before segment after ⊎ EmitsEmpty before segment after)

-- no endpoint that the state stands for emits one
abbrev pub EmitsNone : EndState → ℕ → ℕ → Type 0
EmitsNone s from len = (e : Endpoint) (segment : PlacedSegment) (after : Endpoint) → EndStands s e → ¬ EmitsPart from len e segment after
