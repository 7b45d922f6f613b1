-- A journal as a text: the bytes of the input that was run, a line that divides, a line for each entry, and a line that ends it.
use Rattle.std.specs.Prelude.{ℕ, List, ◌++◌, codes, decimal}
use Rattle.std.specs.List.{flat_map}
use Rattle.ring_net.specs.declared.entry.JournalEntry.{JournalEntry}

-- the line in front of the entries, and the one behind them, each with the newline that ends it
abbrev pub dividing_line : List ℕ
dividing_line = codes "%% journal 1\n"

abbrev pub end_line : List ℕ
end_line = codes "%% end\n"

-- the line of an entry: its clock, its actor, its kind and its arguments, in decimal
abbrev pub entry_line : JournalEntry → List ℕ
entry_line e = decimal e.clock ++ codes " " ++ decimal e.actor ++ codes " " ++ decimal e.kind
    ++ codes " " ++ decimal e.a ++ codes " " ++ decimal e.b ++ codes " " ++ decimal e.c ++ codes "\n"

-- what stands behind the dividing line
abbrev pub journal_lines : List JournalEntry → List ℕ
journal_lines entries = flat_map entry_line entries ++ end_line

-- The dividing line begins behind a newline of its own, however the input ends.
abbrev pub journal_text : List ℕ → List JournalEntry → List ℕ
journal_text input entries = input ++ codes "\n" ++ dividing_line ++ journal_lines entries
