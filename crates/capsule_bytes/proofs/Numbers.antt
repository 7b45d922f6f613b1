-- Numbers read back from their octets.
use Rattle.std.proofs.Common.{◌≡◌, ℕ, ◌<◌, ◌^◌, arith}
use Rattle.std.specs.Int.{Width, byte_len, w8, w16, w32, to_be_bytes, from_be_bytes}
use Rattle.std.proofs.lemmas.Nat.{from_be_bytes-to_be_bytes_2, from_be_bytes-to_be_bytes_4}

-- each number of this width is read from its octets
abbrev pub ReadsBack : Width → Type 0
ReadsBack w = (n : ℕ) → n < 256 ^ byte_len w → from_be_bytes w (to_be_bytes w n) ≡ n

pub back_8 : ReadsBack w8
back_8 n h = omega arith

pub back_16 : ReadsBack w16
back_16 n h = from_be_bytes-to_be_bytes_2 n h

pub back_32 : ReadsBack w32
back_32 n h = from_be_bytes-to_be_bytes_4 n h
