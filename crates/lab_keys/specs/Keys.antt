-- Keys of tables: which of them are required, which are optional, and the kinds of their values.
use Rattle.std.specs.Prelude.{ℕ, Bool, true, false, List, map, Option, Some, None, unwrap_or, if◌then◌else◌}
use Rattle.std.specs.List.{list_any}
use Rattle.std.specs.Str.{bytes_eq}
use Rattle.toml.specs.Data.{Data, Members, no_members, member, get_member}
use Rattle.lab_keys.specs.declared.flaw.Flaw.{Flaw}
use Rattle.lab_keys.specs.declared.flaw.Flaw.TheVariants.{Shape}
use Rattle.lab_keys.specs.declared.key.Kind.{Kind}
use Rattle.lab_keys.specs.declared.key.Counts.{Counts}
use Rattle.lab_keys.specs.declared.table_at.TableAt.{TableAt}
use Rattle.lab_keys.specs.Spots.{KeySpot, spot_of, member_of}
use Rattle.lab_keys.specs.Kinds.{first_of, flaw_if, kind_flaw, array_flaw, table_flaw}
use Rattle.lab_keys.specs.KeyRows.{KeyRow}

-- ---- rows of a table of keys

abbrev pub required : List ℕ → Kind → KeyRow
required name kind = record { name = name; needed = true; kind = kind; counts = None }

abbrev pub optional : List ℕ → Kind → KeyRow
optional name kind = record { name = name; needed = false; kind = kind; counts = None }

-- an array of low to high values of a kind
abbrev pub required_array : List ℕ → (low high : ℕ) → Kind → KeyRow
required_array name low high kind = record { name = name; needed = true; kind = kind; counts = Some (record { low = low; high = high }) }

abbrev pub optional_array : List ℕ → (low high : ℕ) → Kind → KeyRow
optional_array name low high kind = record { name = name; needed = false; kind = kind; counts = Some (record { low = low; high = high }) }

-- the limits of the number of members of an array; a row of one value has none
abbrev pub limits_of : Option Counts → Counts
limits_of counts = unwrap_or counts (record { low = 0; high = 0 })

abbrev pub names_of : List KeyRow → List (List ℕ)
names_of keys = map (λ key. key.name) keys

-- ---- the flaws of a table

abbrev pub value_flaw : Option Counts → Kind → KeySpot → Data → Option Flaw
value_flaw None kind at d = kind_flaw kind at d
value_flaw (Some counts) kind at d = array_flaw at counts.low counts.high (λ i. kind_flaw kind (member_of at i)) d

-- a missing value has a wrong shape if it is required
abbrev pub present : KeySpot → Bool → (Data → Option Flaw) → Option Data → Option Flaw
present at needed flaw None = flaw_if needed (Shape at)
present at needed flaw (Some d) = flaw d

abbrev pub key_flaw : TableAt → Members → KeyRow → Option Flaw
key_flaw at t key = present (spot_of at key.name) key.needed (value_flaw key.counts key.kind (spot_of at key.name)) (get_member key.name t)

-- the first flaw of the keys, in their order
abbrev pub keys_flaw : TableAt → List KeyRow → Members → Option Flaw
keys_flaw at keys t = first_of (map (key_flaw at t) keys)

-- an array of low to high tables
abbrev pub tables_flaw : TableAt → List ℕ → Bool → (low high : ℕ) → (ℕ → Members → Option Flaw) → Members → Option Flaw
tables_flaw at key needed low high flaw t =
    present (spot_of at key) needed (array_flaw (spot_of at key) low high (λ i. table_flaw (member_of (spot_of at key) i) (flaw i))) (get_member key t)

-- the array of tables that a row is of
abbrev pub row_flaw : TableAt → KeyRow → (ℕ → Members → Option Flaw) → Members → Option Flaw
row_flaw at row flaw t = tables_flaw at row.name row.needed (limits_of row.counts).low (limits_of row.counts).high flaw t

-- ---- keys that aren't known

abbrev pub is_one_of : List (List ℕ) → List ℕ → Bool
is_one_of known key = list_any (λ name. bytes_eq key name) known

-- the first unknown key; a table's keys are in the order of their bytes
abbrev pub stray_in : List (List ℕ) → Members → Option (List ℕ)
stray_in known no_members = None
stray_in known (member key d ms) = if is_one_of known key then stray_in known ms else Some key

abbrev pub stray_at : TableAt → Option (List ℕ) → Option Flaw
stray_at at None = None
stray_at at (Some key) = Some (Shape (spot_of at key))

abbrev pub stray_flaw : TableAt → List (List ℕ) → Members → Option Flaw
stray_flaw at known t = stray_at at (stray_in known t)
