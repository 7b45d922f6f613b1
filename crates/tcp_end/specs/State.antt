-- The lengths and numbers of an endpoint's state, the segments that it emits, and what a state at rest has to satisfy (RFC 9293, sections 3.3.1, 3.4
-- and 3.8, with this project's window, flight and payload).
use Rattle.std.specs.Prelude.{ℕ, ◌<◌, ◌≤◌, ◌+◌, ◌-◌, ◌^◌, min, List, [], ◌∷◌, length, take, drop, map, false}
use Rattle.graft_edge.specs.declared.ids.PeeringId.{PeeringId}
use Rattle.tcp_seq.specs.Numbers.{plus, offset_from, number}
use Rattle.tcp_seq.specs.Rules.{IsInStream}
use Rattle.tcp_seq.specs.declared.seq.Seq.{Seq}
use Rattle.tcp_seq.specs.declared.segment.Way.{Way}
use Rattle.tcp_seq.specs.declared.segment.Segment.{Segment}
use Rattle.tcp_seq.specs.declared.state.Piece.{Piece}
use Rattle.tcp_seq.specs.declared.state.EndState.{EndState}

-- nothing sent and nothing received
abbrev pub fresh_end : Way → PeeringId → Seq → Seq → EndState
fresh_end way peering send_first receive_first = record {
  way = way;
  peering = peering;
  send_first = send_first;
  acked = 0;
  sent = 0;
  waiting = [];
  receive_first = receive_first;
  taken = 0;
  ready = [];
  ahead = [];
  acked_at_turn = 0;
  owed = false;
}

-- the length of the stream that it sends
abbrev pub stream_length : EndState → ℕ
stream_length s = s.acked + length s.waiting

-- how many bytes were never emitted
abbrev pub unsent : EndState → ℕ
unsent s = stream_length s - s.sent

-- how many bytes were emitted and aren't acknowledged
abbrev pub outstanding : EndState → ℕ
outstanding s = s.sent - s.acked

-- the received length: what was read, and what is ready
abbrev pub got : EndState → ℕ
got s = s.taken + length s.ready

-- the number of a byte of the stream that it sends
abbrev pub own_number : EndState → ℕ → ℕ
own_number s offset = number s.send_first.0 offset

-- the number expected next
abbrev pub expected : EndState → ℕ
expected s = number s.receive_first.0 (got s)

-- pieces with their offsets counted from another offset, modulo 2^32, and back
abbrev pub counted_from : ℕ → List Piece → List Piece
counted_from base ps = map {A = Piece} (λ p. record p { offset = offset_from p.offset base }) ps

abbrev pub raised : ℕ → List Piece → List Piece
raised base ps = map {A = Piece} (λ p. record p { offset = plus p.offset base }) ps

-- the segment with this many bytes from an offset of the stream on, and the number expected next
abbrev pub segment_at : EndState → ℕ → ℕ → Segment
segment_at s offset len = record {
  peering = s.peering;
  way = s.way;
  seq = record { 0 = own_number s offset };
  ack = record { 0 = expected s };
  window = 16384;
  bytes = take len (drop (offset - s.acked) s.waiting);
}

-- how many bytes the next slice has: those that are unsent and fit in the flight of 15,360, at most 1,024
abbrev pub end_next_length : EndState → ℕ
end_next_length s = min 1024 (min (unsent s) (15360 - outstanding s))

-- how many bytes are sent again: what is outstanding, at most 1,024
abbrev pub end_again_length : EndState → ℕ
end_again_length s = min 1024 (outstanding s)

-- what the sending side keeps
pub record IsSending (s : EndState) : Type 0 where
  pub acked : s.acked ≤ s.sent
  pub flight : s.sent ≤ s.acked + 15360
  pub emitted : s.sent ≤ stream_length s
  pub stream : stream_length s ≤ 2 ^ 20
  pub at_turn : s.acked_at_turn ≤ s.acked

-- Pieces from an offset on: none is empty, each begins at or above the end of the one before it, and ends at or below `high`.
abbrev pub LieFrom : ℕ → ℕ → List Piece → Type 0
LieFrom low high [] = Unit {0}
LieFrom low high (p ∷ ps) =
    (low ≤ p.offset) × (0 < length p.bytes) × (p.offset + length p.bytes ≤ high) × LieFrom (p.offset + length p.bytes) high ps

-- what a state at rest satisfies
pub record IsEndState (s : EndState) : Type 0 where
  pub sending : IsSending s
  pub received : IsInStream (got s)
  -- the pieces are above the offset expected next, which has no byte, and in the window
  pub ahead : LieFrom (got s + 1) (got s + 16384) s.ahead
