-- What may stand at a key, in words.
use Rattle.std.specs.Prelude.{ℕ, List, [], ◌++◌, Option, Some, None, codes, decimal, if◌then◌else◌}
use Rattle.std.specs.List.{flat_map}
use Rattle.std.specs.Str.{bytes_eq}
use Rattle.lab_keys.specs.declared.key.Kind.{Kind}
use Rattle.lab_keys.specs.declared.key.Kind.TheVariants.{Number, HoldTime, Name, Host, Address, Prefix, Flag, Origin, Way, FaultKind, StepWord}
use Rattle.lab_keys.specs.declared.key.Kind.TheVariants.{State, Outcome, Best, Hex, Table, Misplaced}
use Rattle.lab_keys.specs.declared.key.Counts.{Counts}
use Rattle.lab_keys.specs.declared.table_at.TableAt.{TableAt}
use Rattle.lab_keys.specs.declared.table_at.TableAt.TheVariants as tables
use Rattle.lab_keys.specs.KeyRows.{KeyRow}
use Rattle.lab_keys.specs.Words.{words_of, origin_words, way_words, fault_kind_words, step_words}
use Rattle.lab_keys.specs.Reported.{state_words}

abbrev pub spaced : List ℕ → List ℕ
spaced word = codes " " ++ word

-- words, each behind a space
abbrev pub listed : List (List ℕ) → List ℕ
listed words = flat_map spaced words

abbrev pub range_words : (low high : ℕ) → List ℕ
range_words low high = decimal low ++ codes " to " ++ decimal high

abbrev pub name_words : List ℕ
name_words = codes "a string of 1 to 16 characters, a to z, 0 to 9 or -, the first one a letter"

-- a key that stands only beside certain others
abbrev pub misplaced_words : List ℕ → List ℕ
misplaced_words key =
    if bytes_eq key (codes "after") then codes "only for the kinds repeat, hold and stray" else codes "only for a rule with a prefix"

-- a value of a kind, at this key
abbrev pub kind_words : List ℕ → Kind → List ℕ
kind_words key (Number low high) = codes "an integer from " ++ range_words low high
kind_words key HoldTime = codes "a number of seconds, 0 or from 3 to 65535"
kind_words key Name = name_words
kind_words key Host = codes "a string with the address of a host, like 192.0.2.1"
kind_words key Address = codes "a string with an IPv4 address, like 192.0.2.1"
kind_words key Prefix = codes "a string with an IPv4 prefix, like 192.0.2.0/24"
kind_words key Flag = codes "true or false"
kind_words key Origin = codes "a string, one of" ++ listed (words_of origin_words)
kind_words key Way = codes "a string, one of" ++ listed (words_of way_words)
kind_words key FaultKind = codes "a string, one of" ++ listed (words_of fault_kind_words)
kind_words key StepWord = codes "a string, one of" ++ listed (words_of step_words)
kind_words key State = codes "a string, one of" ++ listed (words_of state_words)
kind_words key Outcome = codes "a string, accepted, or refused and a reason as the report writes it, like refused RouterFull(4)"
kind_words key Best = codes "a string, none, own, or peering or router and a name, like peering c1"
kind_words key (Hex low high) = codes "a string with " ++ range_words low high ++ codes " octets, two hexadecimal digits each"
kind_words key Table = codes "a table"
kind_words key Misplaced = misplaced_words key

-- the arrays around the tables of an array, in front of its key in their heading
abbrev pub heading_front : TableAt → List ℕ
heading_front (tables.Router i) = codes "router."
heading_front (tables.Policy i j) = codes "router.policy."
heading_front at = []

-- the members of an array
abbrev pub members_words : TableAt → List ℕ → Kind → List ℕ
members_words at key Table = codes "tables, each under [[" ++ heading_front at ++ key ++ codes "]]"
members_words at key kind = codes "values, each " ++ kind_words key kind

abbrev pub value_words : TableAt → List ℕ → Kind → Option Counts → List ℕ
value_words at key kind None = kind_words key kind
value_words at key kind (Some counts) = codes "an array of " ++ range_words counts.low counts.high ++ codes " " ++ members_words at key kind

-- what is wanted by a row
abbrev pub wanted_words : TableAt → KeyRow → List ℕ
wanted_words at row = value_words at row.name row.kind row.counts
