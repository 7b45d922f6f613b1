-- Sequence numbers, which wrap around modulo 2^32 (RFC 9293, section 3.4).
use Rattle.std.specs.Prelude.{ℕ, ◌+◌, ◌-◌, ◌%◌, ◌^◌}

-- the number n after a number
abbrev pub plus : ℕ → ℕ → ℕ
plus number n = (number + n) % 2 ^ 32

-- how far a number is after `first`
abbrev pub offset_from : ℕ → ℕ → ℕ
offset_from number first = (number + (2 ^ 32 - first)) % 2 ^ 32

-- the number of the byte at an offset of a stream whose byte at offset 0 has the number `first`
abbrev pub number : ℕ → ℕ → ℕ
number first offset = plus first offset
