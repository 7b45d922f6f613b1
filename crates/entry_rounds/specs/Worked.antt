-- A worked journal of two actors, and the marks of its run.
use Rattle.std.specs.Prelude.{ℕ, List, [], ◌∷◌}
use Rattle.ring_net.specs.declared.entry.JournalEntry.{JournalEntry}

-- at the beginning, and behind each of three rounds
abbrev pub worked_marks : List (List ℕ)
worked_marks = (0 ∷ 0 ∷ []) ∷ (2 ∷ 1 ∷ []) ∷ (2 ∷ 2 ∷ []) ∷ (3 ∷ 2 ∷ []) ∷ []

abbrev pub worked_entry : (clock actor : ℕ) → JournalEntry
worked_entry clock actor = record { clock = clock; actor = actor; kind = 5; a = 0; b = 0; c = 0 }

-- The clock of the second actor ran behind in rounds 1 and 2.
abbrev pub worked_journal : List JournalEntry
worked_journal = worked_entry 1 0 ∷ worked_entry 1 1 ∷ worked_entry 2 1 ∷ worked_entry 3 0 ∷ worked_entry 4 0 ∷ worked_entry 5 1 ∷ []
