-- How the text of a journal is read: where it divides, which entries stand behind the dividing line, and which line is the first at fault.
use Rattle.std.specs.Prelude.{ℕ, ◌≡◌, ◌≢◌, ◌⊎◌, ◌<◌, ◌+◌, ◌^◌, List, [], ◌++◌, codes, length}
use Rattle.std.specs.List.{AllByRecursion, flat_map}
use Rattle.ring_net.specs.declared.entry.JournalEntry.{JournalEntry}
use Rattle.journal_form.specs.Journals.{dividing_line, end_line, entry_line, journal_lines}

-- ---- where a text divides

-- The text falls into what stands before the newline in front of a line `%% journal 1`, that line, and what stands behind it. Nothing stands before a
-- line that is the text's first. A line ends at a newline: bytes behind a text's last newline are no line.
abbrev pub IsDivided : (text input rest : List ℕ) → Type 0
IsDivided text input rest = (text ≡ input ++ codes "\n" ++ dividing_line ++ rest) ⊎ ((input ≡ []) × (text ≡ dividing_line ++ rest))

-- the text has a line `%% journal 1`
pub record HasDividingLine (text : List ℕ) : Type 0 where
  pub input : List ℕ
  pub rest : List ℕ
  pub divided : IsDivided text input rest

-- The last line `%% journal 1` divides the text, whatever lines stand before it.
pub record Divides (text input rest : List ℕ) : Type 0 where
  pub divided : IsDivided text input rest
  pub last : ¬ HasDividingLine rest

-- ---- what stands behind the dividing line

-- an entry's numbers have the widths of its fields
pub record FitsWidths (e : JournalEntry) : Type 0 where
  pub clock : e.clock < 2 ^ 64
  pub actor : e.actor < 2 ^ 16
  pub kind : e.kind < 2 ^ 16
  pub a : e.a < 2 ^ 32
  pub b : e.b < 2 ^ 32
  pub c : e.c < 2 ^ 32

abbrev pub AreEntries : List JournalEntry → Type 0
AreEntries = AllByRecursion FitsWidths

-- the lines are those of entries, and the line that ends a journal
pub record AreLinesOf (entries : List JournalEntry) (rest : List ℕ) : Type 0 where
  pub fit : AreEntries entries
  pub lines : rest ≡ journal_lines entries

-- the line of an entry stands at the text's beginning
pub record BeginsWithEntry (text : List ℕ) : Type 0 where
  pub entry : JournalEntry
  pub fits : FitsWidths entry
  pub behind : List ℕ
  pub line : text ≡ entry_line entry ++ behind

-- the line `%% end` stands there
pub record BeginsWithEnd (text : List ℕ) : Type 0 where
  pub behind : List ℕ
  pub line : text ≡ end_line ++ behind

-- something stands behind a line `%% end`
pub record GoesOn (text : List ℕ) : Type 0 where
  pub behind : List ℕ
  pub line : text ≡ end_line ++ behind
  pub more : behind ≢ []

-- After the lines of so many entries the text has this behind them, and there is the fault: neither an entry's line nor the line `%% end`, or a line
-- that stands behind `%% end`.
abbrev pub HasFault : (number : ℕ) (behind : List ℕ) (i : ℕ) → Type 0
HasFault number behind i =
    ((i ≡ number) × (¬ BeginsWithEntry behind) × (¬ BeginsWithEnd behind))
    ⊎ ((i ≡ number + 1) × GoesOn behind)

-- Line `i`, counted from 0, is the first that isn't as in a journal. All lines before it are.
pub record IsAtFault (rest : List ℕ) (i : ℕ) : Type 0 where
  pub entries : List JournalEntry
  pub behind : List ℕ
  pub fit : AreEntries entries
  pub before : rest ≡ flat_map entry_line entries ++ behind
  pub fault : HasFault (length entries) behind i
