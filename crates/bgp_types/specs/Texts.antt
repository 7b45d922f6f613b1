-- Addresses and prefixes as text.
use Rattle.std.specs.Prelude.{◌≡◌, ◌≢◌, ℕ, ◌*◌, ◌^◌, ◌<◌, ◌≤◌, List, ◌++◌, codes, decimal, length, slice_index}
use Rattle.std.specs.Int.{w32, to_be_bytes}
use Rattle.std.specs.Net.Text.{ipv4_text}
use Rattle.bgp_types.specs.Prefixes.{PrefixValue, prefix_of}

-- the octets of an address as decimals without leading zeros, with dots between them
abbrev pub address_text : ℕ → List ℕ
address_text address = ipv4_text (to_be_bytes w32 address)

-- an address, a slash and the length
abbrev pub prefix_text : PrefixValue → List ℕ
prefix_text p = address_text p.address ++ codes "/" ++ decimal p.len

-- The text writes this address of 32 bits.
pub record IsAddressText (written : List ℕ) (address : ℕ) : Type 0 where
  pub fits : address < 2 ^ 32
  pub text : written ≡ address_text address

-- The text writes an address and a length of at most 32, and this is the prefix of that length.
pub record IsPrefixText (written : List ℕ) (p : PrefixValue) : Type 0 where
  pub address : ℕ
  pub fits : address < 2 ^ 32
  pub short : p.len ≤ 32
  pub text : written ≡ address_text address ++ codes "/" ++ decimal p.len
  pub prefix : p ≡ prefix_of p.len address

-- An address that a host may have: not 0.0.0.0, and below 224.0.0.0. Stricter rules (RFC 1122, section 3.2.1.3) aren't applied.
abbrev pub IsHost : ℕ → Type 0
IsHost address = (address ≢ 0) × (address < 224 * 2 ^ 24)

-- The text writes this length of a prefix.
abbrev pub IsLengthText : List ℕ → ℕ → Type 0
IsLengthText text len = (len ≤ 32) × (text ≡ decimal len)

-- The text begins like a decimal without a sign or leading zeros: with a digit, and with 0 only where that is all.
pub record BeginsPlainly (written : List ℕ) : Type 0 where
  pub some : 0 < length written
  pub digit_from : 48 ≤ slice_index written 0
  pub digit_to : slice_index written 0 ≤ 57
  pub zero_alone : slice_index written 0 ≡ 48 → length written ≡ 1
