-- Which name a misspelt one is nearest to.
use Rattle.std.specs.Prelude.{ℕ, ◌+◌, ◌/◌, nat_le, Bool, ◌&&◌, List, length, Option}
use Rattle.std.specs.List.{list_all, find}
use Rattle.std.specs.Str.{chars}
use Rattle.strsim.specs.Edits.{osa_table}

-- the number of edits from one text to another, each of which puts in, leaves out or replaces a character, or swaps two that stand side by side
unfoldable pub distance : List ℕ → List ℕ → ℕ
distance from to = (osa_table (chars from) (chars to)).last_row (length (chars to))

-- the number of edits up to which a name may be meant: a third of the length of the text, rounded
abbrev pub most_edits : List ℕ → ℕ
most_edits text = (length text + 1) / 3

-- a name that may be meant
abbrev pub is_near : List ℕ → List ℕ → Bool
is_near text name = nat_le (distance text name) (most_edits text)

-- none of the names is nearer than this one
abbrev pub is_nearest : List (List ℕ) → List ℕ → List ℕ → Bool
is_nearest names text name = is_near text name && list_all (λ other. nat_le (distance text name) (distance text other)) names

-- the first of these
abbrev pub nearest : List (List ℕ) → List ℕ → Option (List ℕ)
nearest names text = find (is_nearest names text) names
