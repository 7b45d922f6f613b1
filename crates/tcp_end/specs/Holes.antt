-- Offsets that pieces have a byte for, and those that they don't.
use Rattle.std.specs.Prelude.{ℕ, ◌≡◌, ◌<◌, ◌≤◌, List, None, IsSome}
use Rattle.tcp_seq.specs.declared.state.Piece.{Piece}
use Rattle.tcp_reasm.specs.Runs.{held}

-- an offset from one up to another has no byte
abbrev pub HasHole : List Piece → ℕ → ℕ → Type 0
HasHole ps from to = (k : ℕ) × (from ≤ k) × (k < to) × (held ps k ≡ None)

-- each offset from one up to another has a byte
abbrev pub IsCovered : List Piece → ℕ → ℕ → Type 0
IsCovered ps from to = (k : ℕ) → from ≤ k → k < to → IsSome (held ps k)
