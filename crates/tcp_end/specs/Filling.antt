-- What bytes from the offset expected next on make ready, together with the pieces that they reach.
use Rattle.std.specs.Prelude.{ℕ, suc, ◌+◌, ◌-◌, nat_le, max, if◌then◌else◌, List, [], ◌∷◌, ◌++◌, length, take, drop}
use Rattle.tcp_seq.specs.declared.state.Piece.{Piece}

-- the offset up to which bytes go on from an offset over pieces, without a gap
abbrev pub end_from : ℕ → Piece → ℕ
end_from end p = if nat_le p.offset end then max end (p.offset + length p.bytes) else end

-- how many of the first pieces are reached from an offset on without a gap
abbrev pub reached : ℕ → List Piece → ℕ
reached end [] = 0
reached end (p ∷ ps) = if nat_le p.offset end then suc (reached (max end (p.offset + length p.bytes)) ps) else 0

-- the bytes of pieces, and between and after them, from `at` on, the given bytes, which stand from the offset expected next on
abbrev pub filled : List ℕ → ℕ → List Piece → List ℕ
filled bytes at [] = drop at bytes
filled bytes at (p ∷ ps) = take (p.offset - at) (drop at bytes) ++ (p.bytes ++ filled bytes (p.offset + length p.bytes) ps)
