-- Elements of an SVG: texts and paths. Attributes stand within single quotes, and how a class looks is said by the style of the picture.
use Rattle.std.specs.Prelude.{ℕ, ◌==◌, ◌%◌, List, [], ◌∷◌, ◌++◌, chars, encode_utf8_all, codes, decimal, if◌then◌else◌}
use Rattle.std.specs.List.{flat_map}

-- ---- texts

-- a character, with an entity for each of the five that mean something else in XML
abbrev pub escaped_char : (c : ℕ) → List ℕ
escaped_char c =
    if c == 38 then codes "&amp;"
    else if c == 60 then codes "&lt;"
    else if c == 62 then codes "&gt;"
    else if c == 34 then codes "&quot;"
    else if c == 39 then codes "&#39;"
    else encode_utf8_all (c ∷ [])

unfoldable pub escaped : (text : List ℕ) → List ℕ
escaped text = flat_map escaped_char (chars text)

unfoldable pub text_start : (class : List ℕ) → (x y : ℕ) → List ℕ
text_start class x y = codes "<text class='" ++ class ++ codes "' x='" ++ decimal x ++ codes "' y='" ++ decimal y ++ codes "'>"

unfoldable pub text_at : (class : List ℕ) → (x y : ℕ) → (words : List ℕ) → List ℕ
text_at class x y words = text_start class x y ++ escaped words ++ codes "</text>\n"

unfoldable pub number_at : (class : List ℕ) → (x y number : ℕ) → List ℕ
number_at class x y number = text_start class x y ++ decimal number ++ codes "</text>\n"

-- ---- paths

-- the class of a peering's colour, behind another class
abbrev pub colour : (peering : ℕ) → List ℕ
colour peering = codes " c" ++ decimal (peering % 7)

unfoldable pub path_start : (class : List ℕ) → (x y : ℕ) → List ℕ
path_start class x y = codes "<path class='" ++ class ++ codes "' d='M" ++ decimal x ++ codes " " ++ decimal y

-- what a reader sees who points at the path
unfoldable pub titled_end : (title : List ℕ) → List ℕ
titled_end title = codes "'><title>" ++ title ++ codes "</title></path>\n"

abbrev pub plain_end : List ℕ
plain_end = codes "'/>\n"

-- a line of a peering's colour along a row, from one place to another
unfoldable pub row_line : (class : List ℕ) → (peering x y to : ℕ) → List ℕ
row_line class peering x y to = path_start (class ++ colour peering) x y ++ codes "H" ++ decimal to

-- a line down
unfoldable pub down_line : (class : List ℕ) → (x y to : ℕ) → List ℕ
down_line class x y to = path_start class x y ++ codes "V" ++ decimal to ++ plain_end
