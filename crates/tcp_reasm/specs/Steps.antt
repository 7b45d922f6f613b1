-- What the steps of putting and taking bytes answer.
use Rattle.std.specs.Prelude.{ℕ, suc, ◌+◌, ◌-◌, nat_lt, nat_le, max, if◌then◌else◌, List, [], ◌∷◌, ◌++◌, length, take, drop, map, ◌==◌, Option, None, is_some}
use Rattle.std.specs.List.{flat_map}
use Rattle.tcp_seq.specs.declared.state.Piece.{Piece}

-- how many of the first pieces end at or below an offset
abbrev pub passed : ℕ → List Piece → ℕ
passed offset [] = 0
passed offset (p ∷ ps) = if nat_le (p.offset + length p.bytes) offset then suc (passed offset ps) else 0

-- how many of the first pieces begin below an offset
abbrev pub begun_below : ℕ → List Piece → ℕ
begun_below offset [] = 0
begun_below offset (p ∷ ps) = if nat_lt p.offset offset then suc (begun_below offset ps) else 0

-- of bytes that stand from an offset on, the piece from `at` up to `to`, if there is one
abbrev pub run_between : ℕ → List ℕ → ℕ → ℕ → List Piece
run_between offset bytes at to = if nat_lt at to then record { offset = at; bytes = take (to - at) (drop (at - offset) bytes) } ∷ [] else []

-- of bytes that stand from an offset on, the runs from `at` on between pieces and behind them
abbrev pub runs_outside : ℕ → List ℕ → ℕ → List Piece → List Piece
runs_outside offset bytes at [] = run_between offset bytes at (offset + length bytes)
runs_outside offset bytes at (p ∷ ps) = run_between offset bytes at p.offset ++ runs_outside offset bytes (max at (p.offset + length p.bytes)) ps

-- a byte where there isn't one yet
abbrev pub where_none : Option ℕ → Option ℕ → Option ℕ
where_none there byte = if is_some there then None else byte

-- how many of the first pieces follow one another without a gap from an offset on
abbrev pub in_order : ℕ → List Piece → ℕ
in_order at [] = 0
in_order at (p ∷ ps) = if p.offset == at then suc (in_order (at + length p.bytes) ps) else 0

-- the bytes of pieces, one behind the other
abbrev pub piece_bytes : List Piece → List ℕ
piece_bytes ps = flat_map {X = Piece} (λ p. p.bytes) ps

-- the pieces with their offsets lowered, counted from a later offset
abbrev pub lowered : ℕ → List Piece → List Piece
lowered by ps = map {A = Piece} (λ p. record p { offset = p.offset - by }) ps
