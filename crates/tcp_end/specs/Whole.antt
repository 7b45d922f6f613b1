-- The endpoint over whole numbers that a state stands for, given its stream and the bytes that were read.
use Rattle.std.specs.Prelude.{ℕ, ◌+◌, List, [], ◌∷◌, ◌++◌}
use Rattle.std.specs.FinMap as map
use Rattle.tcp_seq.specs.Endpoint.{Bytes, Endpoint}
use Rattle.tcp_seq.specs.declared.state.Piece.{Piece}
use Rattle.tcp_seq.specs.declared.state.EndState.{EndState}

-- bytes with their offsets, from this offset on
abbrev pub numbered_from : ℕ → List ℕ → List (ℕ × ℕ)
numbered_from offset [] = []
numbered_from offset (b ∷ bs) = (offset, b) ∷ numbered_from (offset + 1) bs

-- the bytes of pieces with their offsets
abbrev pub numbered_in : List Piece → List (ℕ × ℕ)
numbered_in [] = []
numbered_in (p ∷ ps) = numbered_from p.offset p.bytes ++ numbered_in ps

-- what arrived: these bytes from offset 0 on, and those of the pieces
abbrev pub arrived_of : List ℕ → List Piece → Bytes
arrived_of bytes pieces = map.from_entries (numbered_from 0 bytes ++ numbered_in pieces)

-- the endpoint that sends this stream and has read these bytes
abbrev pub endpoint_of : (stream read : List ℕ) → EndState → Endpoint
endpoint_of stream read s = record {
  stream = stream;
  emitted = s.sent;
  acked = s.acked;
  arrived = arrived_of (read ++ s.ready) s.ahead;
  read = s.taken;
  owed = s.owed;
}
