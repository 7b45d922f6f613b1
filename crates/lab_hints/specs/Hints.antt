-- The hint for bytes that are refused as an input.
use Rattle.std.specs.Prelude.{◌≡◌, ℕ, ◌+◌, ◌≤◌, ◌==◌, nat_lt, Bool, true, false, not, ◌||◌, List, [], ◌∷◌, ◌++◌, length, take, reverse}
use Rattle.std.specs.Prelude.{count_by, Option, Some, None, codes, decimal}
use Rattle.std.specs.List.{take_while}
use Rattle.std.specs.Str.{is_utf8}
use Rattle.std.specs.Str.Lossy.{utf8_valid_len}
use Rattle.toml.specs.Data.{Members}
use Rattle.lab_keys.specs.declared.flaw.Flaw.{Flaw}
use Rattle.lab_tables.specs.declared.input.LabInput.{LabInput}
use Rattle.lab_tables.specs.Documents.{shaped, lab_of}
use Rattle.lab_input.specs.declared.bad.BadInput.{BadInput}
use Rattle.lab_input.specs.Bytes.{document_of}
use Rattle.lab_input.specs.Labs.{most_bytes}
use Rattle.lab_hints.specs.Shapes.{spot_in, shape_words}
use Rattle.lab_hints.specs.Later.{later_words, unknown_words}

-- a hint, as a line
abbrev pub hint_line : List ℕ → List ℕ
hint_line words = codes "hint: " ++ words ++ 10 ∷ []

-- ---- more bytes than an input has

abbrev pub long_words : List ℕ
long_words = codes "an input has at most " ++ decimal most_bytes ++ codes " bytes"

-- ---- bytes that are no TOML document

abbrev pub lines_in : List ℕ → ℕ
lines_in bytes = count_by (λ b. b == 10) bytes

-- an octet that goes on with a character of UTF-8 doesn't begin one
abbrev pub begins_character : ℕ → Bool
begins_character b = nat_lt b 128 || nat_lt 191 b

-- characters behind the last newline
abbrev pub columns_in : List ℕ → ℕ
columns_in bytes = count_by begins_character (take_while (λ b. not (b == 10)) (reverse bytes))

-- lines and columns count from 1
abbrev pub line_of : List ℕ → (at : ℕ) → ℕ
line_of bytes at = lines_in (take at bytes) + 1

abbrev pub column_of : List ℕ → (at : ℕ) → ℕ
column_of bytes at = columns_in (take at bytes) + 1

abbrev pub place_words : List ℕ → (at : ℕ) → List ℕ → List ℕ
place_words bytes at message = codes "line " ++ decimal (line_of bytes at) ++ codes " column " ++ decimal (column_of bytes at) ++ codes ": " ++ message

-- A place in the bytes and what is wrong there: the first octet that isn't UTF-8, or one that the library `toml` finds.
pub record IsPlaceHint (bytes text : List ℕ) : Type 0 where
  pub at : ℕ
  pub within : at ≤ length bytes
  pub broken : is_utf8 bytes ≡ false → at ≡ utf8_valid_len bytes
  pub message : List ℕ
  pub is : text ≡ hint_line (place_words bytes at message)

-- ---- a document

-- by its first flaw, or by the fault of names or counts
abbrev pub flaw_words : Option Flaw → Members → BadInput → List ℕ
flaw_words (Some flaw) doc bad = shape_words doc (spot_in flaw)
flaw_words None doc bad = later_words (lab_of doc) bad

abbrev pub document_words : Members → BadInput → List ℕ
document_words doc bad = flaw_words (shaped doc) doc bad

-- ---- the hint

abbrev pub IsReadHint : Option Members → List ℕ → BadInput → List ℕ → Type 0
IsReadHint None bytes bad text = IsPlaceHint bytes text
IsReadHint (Some doc) bytes bad text = text ≡ hint_line (document_words doc bad)

abbrev pub IsHintBy : (long : Bool) → List ℕ → BadInput → List ℕ → Type 0
IsHintBy true bytes bad text = text ≡ hint_line long_words
IsHintBy false bytes bad text = IsReadHint (document_of bytes) bytes bad text

-- The text is the hint for these bytes, which are refused for this fault.
abbrev pub IsHint : List ℕ → BadInput → List ℕ → Type 0
IsHint bytes bad text = IsHintBy (nat_lt most_bytes (length bytes)) bytes bad text

-- The text is the hint for an input that hasn't what the words of a command name.
abbrev pub IsNameHint : LabInput → List ℕ → List ℕ → Type 0
IsNameHint lab name text = text ≡ hint_line (unknown_words lab name)

-- Each input that is refused has a hint.
abbrev pub HasHint : List ℕ → BadInput → Type 0
HasHint bytes bad = (text : List ℕ) × IsHint bytes bad text
