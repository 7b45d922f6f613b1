-- Pieces of a stream, whose offsets are counted from the one expected next.
use Rattle.std.specs.Prelude.{ℕ, ◌<◌, ◌≤◌, ◌+◌, List, [], ◌∷◌, length, Option, None}
use Rattle.std.specs.Option.{option_or}
use Rattle.tcp_seq.specs.declared.state.Piece.{Piece}
use Rattle.tcp_seq.specs.Endpoint.{byte_from}

-- the byte that a list of pieces has at an offset, that of the first piece that has one
abbrev pub held : List Piece → ℕ → Option ℕ
held [] k = None
held (p ∷ ps) k = option_or (byte_from p.offset p.bytes k) (held ps k)

-- The pieces are in ascending order and don't overlap: none is empty, and each begins at `low` or above, begins at the end of the one before it or
-- above, and ends in a window of 16,384.
abbrev pub AreRuns : ℕ → List Piece → Type 0
AreRuns low [] = Unit {0}
AreRuns low (p ∷ ps) =
    (low ≤ p.offset) × (0 < length p.bytes) × (p.offset + length p.bytes ≤ 16384) × AreRuns (p.offset + length p.bytes) ps
