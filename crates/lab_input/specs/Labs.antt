-- Which bytes are an input, which input they stand for, and the first rule that others don't meet.
use Rattle.std.specs.Prelude.{◌≡◌, ℕ, ◌+◌, nat_lt, List, [], ◌∷◌, length, Option, Some, None, option_map, Result, Ok, Err, codes, if◌then◌else◌}
use Rattle.toml.specs.Data.{Members}
use Rattle.lab_keys.specs.declared.flaw.Flaw.{Flaw}
use Rattle.lab_keys.specs.declared.flaw.Flaw.TheVariants as flaws
use Rattle.lab_keys.specs.Spots.{key_spot_text}
use Rattle.lab_keys.specs.Kinds.{first_of}
use Rattle.lab_tables.specs.declared.input.LabInput.{LabInput}
use Rattle.lab_input.specs.declared.bad.LabStop.{LabStop}
use Rattle.lab_input.specs.declared.bad.LabStop.TheVariants.{Bad, NoMemory}
use Rattle.lab_input.specs.declared.bad.BadInput.{BadInput}
use Rattle.lab_input.specs.declared.bad.BadInput.TheVariants.{NotToml, Shape, Limit}
use Rattle.lab_input.specs.Bytes.{document_of}
use Rattle.lab_tables.specs.Documents.{shaped, lab_of}
use Rattle.lab_input.specs.Names.{named}
use Rattle.lab_input.specs.Counts.{count_fault}

abbrev pub bad_of : Flaw → BadInput
bad_of (flaws.Shape at) = Shape (key_spot_text at)
bad_of (flaws.Limit at n) = Limit (key_spot_text at) n

-- ---- the rules in their order

-- the first rule that a document doesn't meet: 3, shapes and limits; 4, names; 5, counts
abbrev pub bad_in : Members → Option BadInput
bad_in doc = first_of (option_map bad_of (shaped doc) ∷ named doc ∷ count_fault (lab_of doc) ∷ [])

abbrev pub input_unless : Option BadInput → LabInput → Result LabInput BadInput
input_unless None input = Ok input
input_unless (Some bad) input = Err bad

-- rule 2: the bytes are a TOML document
abbrev pub input_in : Option Members → Result LabInput BadInput
input_in None = Err NotToml
input_in (Some doc) = input_unless (bad_in doc) (lab_of doc)

-- the limit of bytes of an input
abbrev pub most_bytes : ℕ
most_bytes = 4194304

abbrev pub too_long : BadInput
too_long = Limit (codes "input") (most_bytes + 1)

-- rule 1: the number of bytes is within the limit
unfoldable pub input_of : List ℕ → Result LabInput BadInput
input_of bytes = if nat_lt most_bytes (length bytes) then Err too_long else input_in (document_of bytes)

-- The bytes stand for this input.
abbrev pub InputOf : List ℕ → LabInput → Type 0
InputOf bytes input = input_of bytes ≡ Ok input

-- What a reader answers: the value, or its fault, or that memory ran out.
abbrev pub ReaderAnswers : Result LabInput BadInput → Result LabInput LabStop → Type 0
ReaderAnswers answer (Ok input) = answer ≡ Ok input
ReaderAnswers answer (Err (Bad bad)) = answer ≡ Err bad
ReaderAnswers answer (Err NoMemory) = Unit {0}
