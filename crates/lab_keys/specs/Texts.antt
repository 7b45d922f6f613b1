-- Texts that are names, addresses, prefixes or octets in hexadecimal.
use Rattle.std.specs.Prelude.{ℕ, zero, suc, ◌%◌, ◌==◌, nat_le, Bool, ◌&&◌, ◌||◌, List, [], length}
use Rattle.std.specs.Prelude.{slice_index, Option, Some, None, option_and_then, if◌then◌else◌, decimal}
use Rattle.std.specs.Int.{w32, from_be_bytes}
use Rattle.std.specs.List.{list_all, before_first, after_first}
use Rattle.std.specs.Result.{result_unwrap_or}
use Rattle.std.specs.Str.{bytes_eq}
use Rattle.std.specs.Net.Reader.{Read, read_ipv4}
use Rattle.hex.specs.Hex.{is_hex_digit, decode_of}
use Rattle.bgp_types.specs.Prefixes.{PrefixValue, prefix_of}
use Rattle.bgp_types.specs.Values.{is_no_host}

-- ---- names

abbrev pub is_small_letter : ℕ → Bool
is_small_letter c = nat_le 97 c && nat_le c 122

abbrev pub is_name_char : ℕ → Bool
is_name_char c = is_small_letter c || (nat_le 48 c && nat_le c 57) || c == 45

-- A name has 1 to 16 characters, the first one a to z, the others a to z, 0 to 9 or a dash.
abbrev pub is_name : List ℕ → Bool
is_name text = nat_le 1 (length text) && nat_le (length text) 16 && is_small_letter (slice_index text 0) && list_all is_name_char text

-- ---- addresses

-- the number of four octets, if nothing follows them
abbrev pub whole_address : Read (List ℕ) → Option ℕ
whole_address None = None
whole_address (Some read) = if length read.1 == 0 then Some (from_be_bytes w32 read.0) else None

-- the address written by a text: four decimal numbers from 0 to 255 without leading zeros, separated by dots
unfoldable pub address_in : List ℕ → Option ℕ
address_in text = whole_address (read_ipv4 text)

abbrev pub host_if : ℕ → Option ℕ
host_if address = if is_no_host address then None else Some address

-- the address written by a text, if it is that of a host
abbrev pub host_address_in : List ℕ → Option ℕ
host_address_in text = option_and_then host_if (address_in text)

-- ---- prefixes

-- the number below n whose decimal form this is, if there is one
abbrev pub decimal_below : List ℕ → ℕ → Option ℕ
decimal_below text zero = None
decimal_below text (suc n) = if bytes_eq text (decimal n) then Some n else decimal_below text n

-- the length written by a text: a decimal number from 0 to 32 without leading zeros
unfoldable pub length_in : List ℕ → Option ℕ
length_in text = decimal_below text 33

abbrev pub prefix_from : Option ℕ → Option ℕ → Option PrefixValue
prefix_from (Some address) (Some len) = Some (prefix_of len address)
prefix_from (Some address) None = None
prefix_from None len = None

-- the prefix written by a text: an address, a slash and a length; bits past the length are cleared
unfoldable pub prefix_in : List ℕ → Option PrefixValue
prefix_in text = prefix_from (address_in (before_first (λ c. c == 47) text)) (length_in (after_first (λ c. c == 47) text))

-- ---- octets

-- an even number of hexadecimal digits, in either case
abbrev pub is_hex : List ℕ → Bool
is_hex text = length text % 2 == 0 && list_all is_hex_digit text

-- the octets written by a text in hexadecimal; none if the text isn't hexadecimal
abbrev pub octets_in : List ℕ → List ℕ
octets_in text = result_unwrap_or (decode_of text) []
