-- The hint for a value of a wrong shape, or beyond its limits.
use Rattle.std.specs.Prelude.{ℕ, nat_le, ◌==◌, Bool, true, false, ◌&&◌, ◌||◌, List, [], ◌++◌, length, Option, Some, None, unwrap_or, codes, if◌then◌else◌}
use Rattle.std.specs.List.{list_all, find}
use Rattle.std.specs.Str.{bytes_eq}
use Rattle.toml.specs.Data.{Members, no_members}
use Rattle.lab_keys.specs.declared.flaw.Flaw.{Flaw}
use Rattle.lab_keys.specs.declared.flaw.Flaw.TheVariants.{Shape, Limit}
use Rattle.lab_keys.specs.declared.table_at.TableAt.{TableAt}
use Rattle.lab_keys.specs.declared.table_at.TableAt.TheVariants.{Top, Cost, Peering, Fault, Step, Expect}
use Rattle.lab_keys.specs.KeyRows.{KeyRow}
use Rattle.lab_keys.specs.Keys.{key_flaw, names_of, stray_in}
use Rattle.lab_keys.specs.Spots.{KeySpot}
use Rattle.lab_keys.specs.Texts.{is_name_char}
use Rattle.lab_keys.specs.Values.{has_member}
use Rattle.lab_tables.specs.Rows.{table_at, rows_at}
use Rattle.near_names.specs.Nearness.{is_near, nearest}
use Rattle.lab_hints.specs.Wanted.{listed, wanted_words}

-- ---- a key that no row has

-- letters, digits, - and _
abbrev pub is_bare_char : ℕ → Bool
is_bare_char c = is_name_char c || (nat_le 65 c && nat_le c 90) || c == 95

-- a key that TOML takes without quotes, and that isn't long: such a one can be quoted in a line
abbrev pub is_bare : List ℕ → Bool
is_bare key = nat_le 1 (length key) && nat_le (length key) 32 && list_all is_bare_char key

abbrev pub known_words : Option (List ℕ) → List (List ℕ) → List ℕ
known_words (Some near) names = codes "; did you mean " ++ near ++ codes "?"
known_words None names = codes "; the keys are" ++ listed names

-- no row has this key; these are the names of the rows
abbrev pub stray_words : List ℕ → List (List ℕ) → List ℕ
stray_words key names =
    if is_bare key then codes "no key here is called " ++ key ++ known_words (nearest names key) names
    else codes "no key here is called so" ++ known_words None names

-- ---- a value that is right by itself

-- how the value at a key has to be beside other ones, if there is such a rule
abbrev pub relation_words : TableAt → List ℕ → Option (List ℕ)
relation_words (Cost i) key = Some (codes "a cost goes from one router to another one")
relation_words (Peering i) key =
    if bytes_eq key (codes "beats")
    then Some (codes "true wants home_hold and hold above 0, and neither an opening nor a raw step of the peering")
    else Some (codes "the AS of a remote is another one than home_as")
relation_words (Fault i) key = Some (codes "only a segment to home can stray")
relation_words (Step i) key =
    if bytes_eq key (codes "least") then Some (codes "least is at most rounds")
    else Some (codes "beside an evacuate step, a group has neither a graft nor a second evacuate step; a settle step ends a group")
relation_words (Expect i) key = Some (codes "the grafts of the script count from 1: a graft step is one, and an evacuate step one for each peering")
relation_words Top key =
    if bytes_eq key (codes "expect")
    then Some (codes "an expectation has one of graft, peering and router, and beside peering one of at, state, heard and told or more of them")
    else None
relation_words at key = None

-- ---- the value of a row

-- a misspelt key that stands there in place of a missing one
abbrev pub instead_words : Option (List ℕ) → List ℕ → List ℕ
instead_words None name = []
instead_words (Some key) name = if is_bare key && is_near key name then codes "; no key is called " ++ key else []

abbrev pub related_words : TableAt → KeyRow → List ℕ
related_words at row = unwrap_or (relation_words at row.name) (row.name ++ codes " is " ++ wanted_words at row)

abbrev pub missing_words : TableAt → Members → KeyRow → List ℕ
missing_words at t row =
    row.name ++ codes " is missing: " ++ wanted_words at row ++ instead_words (stray_in (names_of (rows_at at t)) t) row.name

-- by the flaw that the row's value has by itself, and whether there is a value
abbrev pub flawed_words : Option Flaw → Bool → TableAt → Members → KeyRow → List ℕ
flawed_words None there at t row = related_words at row
flawed_words (Some flaw) true at t row = row.name ++ codes " is " ++ wanted_words at row
flawed_words (Some flaw) false at t row = missing_words at t row

abbrev pub row_words : TableAt → Members → KeyRow → List ℕ
row_words at t row = flawed_words (key_flaw at t row) (has_member row.name t) at t row

-- ---- the hint

abbrev pub found_words : Option KeyRow → TableAt → Members → List ℕ → List ℕ
found_words (Some row) at t key = row_words at t row
found_words None at t key = stray_words key (names_of (rows_at at t))

-- at a key of the table that stands there
abbrev pub key_words : TableAt → Members → List ℕ → List ℕ
key_words at t key = found_words (find (λ row. bytes_eq key row.name) (rows_at at t)) at t key

abbrev pub spot_in : Flaw → KeySpot
spot_in (Shape at) = at
spot_in (Limit at n) = at

abbrev pub shape_words : Members → KeySpot → List ℕ
shape_words doc at = key_words at.table (unwrap_or (table_at at.table doc) no_members) at.key
