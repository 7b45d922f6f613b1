-- Which lines of a text are rows.
use Rattle.std.specs.Prelude.{ℕ, List, [], ◌∷◌, Bool, false, not, ◌==◌, filter}
use Rattle.std.specs.Str.Lines.{lines}

-- a line that isn't empty, and doesn't begin with `#`
abbrev pub is_row_text : List ℕ → Bool
is_row_text [] = false
is_row_text (c ∷ _) = not (c == 35)

abbrev pub rows_of : List ℕ → List (List ℕ)
rows_of text = filter is_row_text (lines text)
