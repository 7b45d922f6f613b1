-- The laboratory of a seed: 4 routers, 12 peerings, two faults on each peering, and a script.
use Rattle.std.specs.Prelude.{ℕ, ◌+◌, ◌*◌, ◌/◌, ◌%◌, ◌==◌, nat_lt, if◌then◌else◌, List, [], ◌++◌, filter, count_by, codes, decimal}
use Rattle.std.specs.List.{flat_map, join_by, range_with_len}

-- the texts of 0 to n - 1, one after another
unfoldable pub each_below : (ℕ → List ℕ) → ℕ → List ℕ
each_below text n = flat_map text (range_with_len 0 n)

-- a number between two texts
unfoldable pub number_between : (before : List ℕ) → ℕ → (after : List ℕ) → List ℕ
number_between before n after = before ++ decimal n ++ after

-- ---- tables

abbrev pub router_table : ℕ → List ℕ
router_table r = number_between (codes "[[router]]\nname = \"r") r (codes "\"\n")
    ++ number_between (codes "id = \"10.255.0.") (r + 1) (codes "\"\nsessions = 12\n\n")

-- a peering begins at the routers in turn, and its sequence numbers a little below 2^32
abbrev pub peering_head : ℕ → List ℕ
peering_head j = number_between (codes "[[peering]]\nname = \"p") j (codes "\"\n")
    ++ number_between (codes "at = \"r") (j % 4) (codes "\"\n") ++ number_between (codes "remote_as = ") (64601 + j) (codes "\n")

abbrev pub peering_addresses : ℕ → List ℕ
peering_addresses j = number_between (codes "remote_address = \"192.0.2.") (2 * j + 1) (codes "\"\n")
    ++ number_between (codes "local_address = \"192.0.2.") (2 * j + 2) (codes "\"\n")

abbrev pub peering_streams : ℕ → List ℕ
peering_streams j = number_between (codes "home_seq = ") (4294960000 + 600 * j) (codes "\n")
    ++ number_between (codes "remote_seq = ") (4294960000 + 600 * j) (codes "\n\n")

abbrev pub peering_table : ℕ → List ℕ
peering_table j = peering_head j ++ peering_addresses j ++ peering_streams j

abbrev pub lose_table : ℕ → List ℕ
lose_table j = number_between (codes "[[fault]]\npeering = \"p") j (codes "\"\nway = \"home\"\nsegment = 2\nkind = \"lose\"\n\n")

abbrev pub repeat_table : ℕ → List ℕ
repeat_table j = number_between (codes "[[fault]]\npeering = \"p") j (codes "\"\nway = \"remote\"\nsegment = 3\nkind = \"repeat\"\nafter = 2\n\n")

abbrev pub fault_tables : ℕ → List ℕ
fault_tables j = lose_table j ++ repeat_table j

-- ---- steps

-- prefix i of 2,000: `10.{i div 256}.{i mod 256}.0/24`, in quotes
abbrev pub quoted_prefix : ℕ → List ℕ
quoted_prefix i = number_between (codes "\"10.") (i / 256) (codes ".") ++ number_between [] (i % 256) (codes ".0/24\"")

-- the numbers i below n for which i + shift is j modulo 12
unfoldable pub prefixes_below : (n shift j : ℕ) → List ℕ
prefixes_below n shift j = filter (λ i. (i + shift) % 12 == j) (range_with_len 0 n)

abbrev pub shifted_prefixes : (shift j : ℕ) → List ℕ
shifted_prefixes shift j = prefixes_below 2000 shift j

abbrev pub announce_head : ℕ → List ℕ
announce_head j = number_between (codes "[[step]]\ndo = \"announce\"\npeering = \"p") j (codes "\"\nprefixes = [")

abbrev pub announce_path : List ℕ → ℕ → List ℕ
announce_path further j = number_between (codes "]\npath = [") (64601 + j) further ++ codes "]\n\n"

-- peering j announces its prefixes, with a path of its AS followed by these
abbrev pub announce_step : ℕ → List ℕ → ℕ → List ℕ
announce_step shift further j = announce_head j ++ join_by quoted_prefix (codes ", ") (shifted_prefixes shift j) ++ announce_path further j

abbrev pub first_step : ℕ → ℕ → List ℕ
first_step seed j = announce_step seed [] j

abbrev pub second_step : ℕ → ℕ → List ℕ
second_step seed j = announce_step (seed + 5) (codes ", 64700") j

abbrev pub settle_step : List ℕ
settle_step = codes "[[step]]\ndo = \"settle\"\n\n"

-- the peering that graft g moves
abbrev pub moved_peering : (seed g : ℕ) → ℕ
moved_peering seed g = (5 * g + seed) % 12

-- how many of the grafts before graft g move a peering
unfoldable pub moves_before : (seed peering g : ℕ) → ℕ
moves_before seed peering g = count_by (λ h. moved_peering seed h == peering) (range_with_len 0 g)

-- the router to which graft g moves its peering: the one after the current one; every graft before has moved it by one
abbrev pub target_of : (seed g : ℕ) → ℕ
target_of seed g = (moved_peering seed g + moves_before seed (moved_peering seed g) g + 1) % 4

abbrev pub graft_step : (seed g : ℕ) → List ℕ
graft_step seed g = number_between (codes "[[step]]\ndo = \"graft\"\npeering = \"p") (moved_peering seed g) (codes "\"\n")
    ++ number_between (codes "to = \"r") (target_of seed g) (codes "\"\n\n")

-- after each of the first twelve grafts the peering of its number announces with a longer path
abbrev pub later_step : (seed g : ℕ) → List ℕ
later_step seed g = if nat_lt g 12 then second_step seed g else []

abbrev pub graft_round : (seed g : ℕ) → List ℕ
graft_round seed g = graft_step seed g ++ later_step seed g

-- ---- the whole

abbrev pub tables_text : List ℕ
tables_text = codes "home_as = 64600\n\n" ++ each_below router_table 4 ++ each_below peering_table 12 ++ each_below fault_tables 12

abbrev pub script_text : ℕ → List ℕ
script_text seed = each_below (first_step seed) 12 ++ settle_step ++ each_below (graft_round seed) 20 ++ settle_step

unfoldable pub made : ℕ → List ℕ
made seed = tables_text ++ script_text seed
