-- The value at a key, or its default.
use Rattle.std.specs.Prelude.{ℕ, ◌^◌, pos, nat_lt, Bool, List, [], Option, Some, None, option_and_then, unwrap_or, is_some, if◌then◌else◌}
use Rattle.std.specs.List.{filter_map}
use Rattle.toml.specs.Data.{Data, integer, array, Members, get_member, as_str, as_bool, as_table}
use Rattle.bgp_types.specs.Prefixes.{PrefixValue}
use Rattle.lab_keys.specs.Kinds.{list_of}
use Rattle.lab_keys.specs.Texts.{address_in, prefix_in, octets_in}

-- a number that fits in n bits
abbrev pub number_in : ℕ → Data → Option ℕ
number_in bits (integer (pos n)) = if nat_lt n (2 ^ bits) then Some n else None
number_in bits _ = None

abbrev pub has_member : List ℕ → Members → Bool
has_member key t = is_some (get_member key t)

abbrev pub maybe_number : ℕ → List ℕ → Members → Option ℕ
maybe_number bits key t = option_and_then (number_in bits) (get_member key t)

abbrev pub number_or : (bits default : ℕ) → List ℕ → Members → ℕ
number_or bits default key t = unwrap_or (maybe_number bits key t) default

abbrev pub maybe_text : List ℕ → Members → Option (List ℕ)
maybe_text key t = option_and_then as_str (get_member key t)

abbrev pub text_at : List ℕ → Members → List ℕ
text_at key t = unwrap_or (maybe_text key t) []

abbrev pub flag_or : Bool → List ℕ → Members → Bool
flag_or default key t = unwrap_or (option_and_then as_bool (get_member key t)) default

abbrev pub address_or : ℕ → List ℕ → Members → ℕ
address_or default key t = unwrap_or (option_and_then address_in (maybe_text key t)) default

abbrev pub maybe_prefix : List ℕ → Members → Option PrefixValue
maybe_prefix key t = option_and_then prefix_in (maybe_text key t)

abbrev pub octets_at : List ℕ → Members → List ℕ
octets_at key t = octets_in (text_at key t)

-- ---- arrays

abbrev pub items_in : Option Data → List Data
items_in (Some (array items)) = list_of items
items_in _ = []

-- the members of the array at a key
abbrev pub items_at : List ℕ → Members → List Data
items_at key t = items_in (get_member key t)

abbrev pub prefix_of_data : Data → Option PrefixValue
prefix_of_data d = option_and_then prefix_in (as_str d)

abbrev pub prefixes_at : List ℕ → Members → List PrefixValue
prefixes_at key t = filter_map prefix_of_data (items_at key t)

abbrev pub address_of_data : Data → Option ℕ
address_of_data d = option_and_then address_in (as_str d)

abbrev pub addresses_at : List ℕ → Members → List ℕ
addresses_at key t = filter_map address_of_data (items_at key t)

abbrev pub numbers_at : List ℕ → Members → List ℕ
numbers_at key t = filter_map (number_in 32) (items_at key t)

abbrev pub tables_at : List ℕ → Members → List Members
tables_at key t = filter_map as_table (items_at key t)
