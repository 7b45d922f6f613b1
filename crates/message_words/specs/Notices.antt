-- A NOTIFICATION in words: its code and subcode with their name, and its data.
use Rattle.std.specs.Prelude.{ℕ, ◌==◌, List, [], ◌∷◌, ◌++◌, length, Option, Some, None, Bool, ◌&&◌, ◌||◌, codes, decimal, if◌then◌else◌}
use Rattle.std.specs.List.{list_any}
use Rattle.std.specs.Char.{is_control}
use Rattle.std.specs.Str.{is_utf8, chars}
use Rattle.hex.specs.Hex.{encode_lower}
use Rattle.bgp_types.specs.declared.message.Notice.{Notice}
use Rattle.message_words.specs.Names.{fault_name}

abbrev pub space : List ℕ
space = codes " "

-- ---- code and subcode

abbrev pub name_words : Option (List ℕ) → List ℕ
name_words None = []
name_words (Some name) = space ++ name

abbrev pub code_words : Notice → List ℕ
code_words n = decimal n.code ++ codes "/" ++ decimal n.subcode ++ name_words (fault_name n.code n.subcode)

-- ---- data

-- octets in hexadecimal; a dash where there are none
abbrev pub octets_text : List ℕ → List ℕ
octets_text [] = codes "-"
octets_text (octet ∷ octets) = encode_lower (octet ∷ octets)

-- a text without control characters
abbrev pub if_clean : List ℕ → Option (List ℕ)
if_clean text = if list_any is_control (chars text) then None else Some text

-- a text that can stand in a line: UTF-8 without control characters
abbrev pub if_plain : List ℕ → Option (List ℕ)
if_plain octets = if is_utf8 octets then if_clean octets else None

-- the rest behind a length of one octet, if it has this length
abbrev pub behind_length : List ℕ → Option (List ℕ)
behind_length [] = None
behind_length (size ∷ text) = if length text == size then if_plain text else None

-- an Administrative Shutdown or an Administrative Reset may have a text (RFC 9003, section 2)
abbrev pub has_text : Notice → Bool
has_text n = (n.code == 6) && ((n.subcode == 2) || (n.subcode == 4))

abbrev pub communication : Notice → Option (List ℕ)
communication n = if has_text n then behind_length n.info else None

abbrev pub octets_words : List ℕ → List ℕ
octets_words octets = if length octets == 0 then [] else codes " data " ++ encode_lower octets

-- the communication in quotes, or the data as octets
abbrev pub data_words : Option (List ℕ) → List ℕ → List ℕ
data_words None info = octets_words info
data_words (Some text) info = codes " \"" ++ text ++ codes "\""

-- ---- both

abbrev pub notice_words : Notice → List ℕ
notice_words n = code_words n ++ data_words (communication n) n.info
