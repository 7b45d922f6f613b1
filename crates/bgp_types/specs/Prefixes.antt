-- Prefixes of addresses (RFC 4271, section 4.3).
use Rattle.std.specs.Prelude.{map, [], ◌++◌, ◌==◌, ◌||◌, ◌&&◌, length, drop, Option, Some, None, Bool, nat_lt}
use Rattle.std.specs.Prelude.{if◌then◌else◌, ◌≡◌, ℕ, ◌+◌, ◌-◌, ◌*◌, ◌/◌, ◌^◌, ◌<◌, ◌≤◌, List, ◌∷◌, take, Contains, ◌↔◌}
use Rattle.std.specs.Int.{w32, from_be_bytes, to_be_bytes}
use Rattle.std.specs.List.{list_any, position_or_len, IsDistinct}
use Rattle.std.specs.Option.{option_map}
use Rattle.bgp_types.specs.Many.{all_of}
use Rattle.bgp_types.specs.Rising.{IsRising}

-- a prefix as contracts see it: its first address, and how many leading bits its addresses share
pub record PrefixValue : Type 0 where
  pub address : ℕ
  pub len : ℕ

-- the address with the bits past its first len cleared
abbrev pub cleared : ℕ → ℕ → ℕ
cleared len address = address / 2 ^ (32 - len) * 2 ^ (32 - len)

-- the prefix of this length that an address begins with
abbrev pub prefix_of : ℕ → ℕ → PrefixValue
prefix_of len address = record { address = cleared len address; len = len }

-- an address of 32 bits in which no bit past the length is set
pub record IsPrefix (p : PrefixValue) : Type 0 where
  pub len : p.len ≤ 32
  pub address : p.address < 2 ^ 32
  pub clear : cleared p.len p.address ≡ p.address

-- Each address of the second begins with the bits of the first.
pub record Covers (p q : PrefixValue) : Type 0 where
  pub shorter : p.len ≤ q.len
  pub front : cleared p.len q.address ≡ p.address

-- how many octets hold this many bits
abbrev pub octets_for : ℕ → ℕ
octets_for len = (len + 7) / 8

-- a prefix as it is written: its length, and the fewest octets that hold that many bits
abbrev pub prefix_octets : PrefixValue → List ℕ
prefix_octets p = p.len ∷ take (octets_for p.len) (to_be_bytes w32 p.address)

-- ---- reading

-- the address that begins with these octets
abbrev pub address_of : List ℕ → ℕ
address_of octets = from_be_bytes w32 (octets ++ drop (length octets) (0 ∷ 0 ∷ 0 ∷ 0 ∷ []))

-- a prefix as it stands in its field: a length, and the octets of an address
pub record WirePrefix : Type 0 where
  pub len : ℕ
  pub octets : List ℕ

-- The length is at most 32, and the octets are the fewest that hold that many bits.
pub record IsWirePrefix (p : WirePrefix) : Type 0 where
  pub len : p.len ≤ 32
  pub octets : length p.octets ≡ octets_for p.len

abbrev pub wire_octets : WirePrefix → List ℕ
wire_octets p = p.len ∷ p.octets

-- the prefix that it gives; bits past the length don't matter
abbrev pub prefix_said : WirePrefix → PrefixValue
prefix_said p = prefix_of p.len (address_of p.octets)

-- the prefix at the front
unfoldable pub prefix_at : List ℕ → Option (WirePrefix × List ℕ)
prefix_at [] = None
prefix_at (len ∷ bytes) =
    if nat_lt 32 len || nat_lt (length bytes) (octets_for len) then None
    else Some (record { len = len; octets = take (octets_for len) bytes }, drop (octets_for len) bytes)

abbrev pub same_prefix : PrefixValue → PrefixValue → Bool
same_prefix p q = (p.address == q.address) && (p.len == q.len)

abbrev pub put_once : List PrefixValue → PrefixValue → List PrefixValue
put_once seen p = if list_any (same_prefix p) seen then seen else seen ++ p ∷ []

-- the prefixes that aren't in the first list, each where it first stands
abbrev pub once_after : List PrefixValue → List PrefixValue → List PrefixValue
once_after seen [] = seen
once_after seen (p ∷ prefixes) = once_after (put_once seen p) prefixes

-- the first index of a prefix in a list
abbrev pub first_index : List PrefixValue → PrefixValue → ℕ
first_index prefixes p = position_or_len (same_prefix p) prefixes

-- The second list has the members of the first, each once, in the order of their first indices.
pub record EachOnce (prefixes once : List PrefixValue) : Type 0 where
  pub members : (p : PrefixValue) → Contains once p ↔ Contains prefixes p
  pub distinct : IsDistinct same_prefix once
  pub in_order : IsRising (first_index prefixes) once

-- the prefixes of a field
unfoldable pub prefixes_of : List ℕ → Option (List PrefixValue)
prefixes_of bytes = option_map (λ spelled. once_after [] (map prefix_said spelled)) (all_of prefix_at bytes)
