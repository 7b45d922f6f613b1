-- JSON values by their parts, and the line of one.
use Rattle.std.specs.Prelude.{ℕ, List, [], ◌∷◌, ◌++◌, Option, Some, None}
use Rattle.serde_json.specs.Data.{Data, null, number, unsigned, string, array, object, Members, no_members, member}
use Rattle.serde_json.specs.View.{items_of}
use Rattle.serde_json.specs.Written.{compact_text}
use Rattle.lab_report.specs.Report.{line_end}

abbrev pub count : ℕ → Data
count n = number (unsigned n)

-- a number, or null
abbrev pub count_or_null : Option ℕ → Data
count_or_null None = null
count_or_null (Some n) = count n

-- a text, or null
abbrev pub text_or_null : Option (List ℕ) → Data
text_or_null None = null
text_or_null (Some text) = string text

abbrev pub list_of : List Data → Data
list_of values = array (items_of values)

abbrev pub members_in : List (List ℕ × Data) → Members
members_in [] = no_members
members_in (m ∷ rest) = member m.0 m.1 (members_in rest)

-- an object of these members, in rising order of their names
abbrev pub fields : List (List ℕ × Data) → Data
fields members = object (members_in members)

-- the version of the forms that follow
abbrev pub version : Data
version = count 1

-- what is written of a value: its text with no space, and a newline
abbrev pub json_line : Data → List ℕ
json_line value = compact_text value ++ line_end
