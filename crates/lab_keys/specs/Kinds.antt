-- What may be at a key: the kinds of values, and the first flaw of a value that isn't of its kind.
use Rattle.std.specs.Prelude.{ℕ, ◌+◌, ◌/◌, ◌==◌, pos, negsuc, nat_lt, Bool, false, ◌||◌, not, List, []}
use Rattle.std.specs.Prelude.{◌∷◌, length, Option, Some, None, is_some, if◌then◌else◌}
use Rattle.std.specs.Option.{option_or}
use Rattle.toml.specs.Data.{Data, string, integer, boolean, array, table, Items, no_items, item, Members}
use Rattle.lab_keys.specs.declared.flaw.Flaw.{Flaw}
use Rattle.lab_keys.specs.declared.flaw.Flaw.TheVariants.{Shape, Limit}
use Rattle.lab_keys.specs.declared.key.Kind.{Kind}
use Rattle.lab_keys.specs.declared.key.Kind.TheVariants.{Number, HoldTime, Name, Host, Address, Prefix, Flag, Hex, Table, Misplaced}
use Rattle.lab_keys.specs.declared.key.Kind.TheVariants.{Origin, Way, FaultKind, StepWord, State, Outcome, Best}
use Rattle.lab_keys.specs.Spots.{KeySpot}
use Rattle.lab_keys.specs.Texts.{is_name, address_in, host_address_in, prefix_in, is_hex}
use Rattle.lab_keys.specs.Words.{origin_in, way_in, fault_kind_in, step_word_in}
use Rattle.lab_keys.specs.Reported.{state_in, is_outcome, is_best}

-- ---- the first of several flaws

abbrev pub first_of : {E : Type 0} → List (Option E) → Option E
first_of [] = None
first_of (flaw ∷ flaws) = option_or flaw (first_of flaws)

-- the first flaw in a list whose first member has index i
abbrev pub each_from : {A E : Type 0} → (ℕ → A → Option E) → ℕ → List A → Option E
each_from flaw i [] = None
each_from flaw i (x ∷ xs) = option_or (flaw i x) (each_from flaw (i + 1) xs)

-- the flaw if the test is true
abbrev pub flaw_if : Bool → Flaw → Option Flaw
flaw_if test flaw = if test then Some flaw else None

-- a number or a count beyond its limits
abbrev pub beyond : KeySpot → (low high n : ℕ) → Option Flaw
beyond at low high n = flaw_if (nat_lt n low || nat_lt high n) (Limit at n)

-- ---- kinds of values

-- a number from low to high; a negative one is reported as 0
abbrev pub number_flaw : KeySpot → (low high : ℕ) → Data → Option Flaw
number_flaw at low high (integer (pos n)) = beyond at low high n
number_flaw at low high (integer (negsuc n)) = Some (Limit at 0)
number_flaw at low high _ = Some (Shape at)

-- a hold time in seconds: 0, or 3 to 65535 (RFC 4271, section 4.2)
abbrev pub hold_time_flaw : KeySpot → Data → Option Flaw
hold_time_flaw at (integer (pos n)) = flaw_if (n == 1 || n == 2 || nat_lt 65535 n) (Limit at n)
hold_time_flaw at (integer (negsuc n)) = Some (Limit at 0)
hold_time_flaw at _ = Some (Shape at)

-- a text of this form
abbrev pub text_flaw : KeySpot → (List ℕ → Bool) → Data → Option Flaw
text_flaw at is_formed (string text) = flaw_if (not (is_formed text)) (Shape at)
text_flaw at is_formed _ = Some (Shape at)

abbrev pub flag_flaw : KeySpot → Data → Option Flaw
flag_flaw at (boolean b) = None
flag_flaw at _ = Some (Shape at)

-- any table; the flaws of its own keys are those of its rows
abbrev pub any_table_flaw : KeySpot → Data → Option Flaw
any_table_flaw at (table t) = None
any_table_flaw at _ = Some (Shape at)

-- from low to high octets in hexadecimal
abbrev pub hex_flaw : KeySpot → (low high : ℕ) → Data → Option Flaw
hex_flaw at low high (string text) = if is_hex text then beyond at low high (length text / 2) else Some (Shape at)
hex_flaw at low high _ = Some (Shape at)

-- whether a text has the form of a kind of texts
abbrev pub is_formed : Kind → List ℕ → Bool
is_formed Name text = is_name text
is_formed Host text = is_some (host_address_in text)
is_formed Address text = is_some (address_in text)
is_formed Prefix text = is_some (prefix_in text)
is_formed Origin text = is_some (origin_in text)
is_formed Way text = is_some (way_in text)
is_formed FaultKind text = is_some (fault_kind_in text)
is_formed StepWord text = is_some (step_word_in text)
is_formed State text = is_some (state_in text)
is_formed Outcome text = is_outcome text
is_formed Best text = is_best text
is_formed _ text = false

-- the first flaw of a value of a kind
abbrev pub kind_flaw : Kind → KeySpot → Data → Option Flaw
kind_flaw (Number low high) at d = number_flaw at low high d
kind_flaw HoldTime at d = hold_time_flaw at d
kind_flaw Flag at d = flag_flaw at d
kind_flaw (Hex low high) at d = hex_flaw at low high d
kind_flaw Table at d = any_table_flaw at d
kind_flaw Misplaced at d = Some (Shape at)
kind_flaw kind at d = text_flaw at (is_formed kind) d

-- ---- arrays

abbrev pub list_of : Items → List Data
list_of no_items = []
list_of (item d ds) = d ∷ list_of ds

-- the length of an array is checked before its members
abbrev pub bounded_array_flaw : KeySpot → (low high : ℕ) → (ℕ → Data → Option Flaw) → List Data → Option Flaw
bounded_array_flaw at low high flaw ds = option_or (beyond at low high (length ds)) (each_from flaw 0 ds)

abbrev pub array_flaw : KeySpot → (low high : ℕ) → (ℕ → Data → Option Flaw) → Data → Option Flaw
array_flaw at low high flaw (array items) = bounded_array_flaw at low high flaw (list_of items)
array_flaw at low high flaw _ = Some (Shape at)

-- a table, or a wrong shape
abbrev pub table_flaw : KeySpot → (Members → Option Flaw) → Data → Option Flaw
table_flaw at flaw (table t) = flaw t
table_flaw at flaw _ = Some (Shape at)
