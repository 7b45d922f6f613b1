-- The rounds of a journal's entries, by the marks of its run.
use Rattle.std.specs.Prelude.{ℕ, ◌==◌, List, map, take, slice_get, unwrap_or, count_by, nat_le}
use Rattle.std.specs.List.{prefix_len, enumerate_from}
use Rattle.ring_net.specs.declared.entry.JournalEntry.{JournalEntry}

-- how many entries of an actor a journal has
abbrev pub entries_of : (actor : ℕ) → List JournalEntry → ℕ
entries_of actor journal = count_by (λ e. e.actor == actor) journal

-- how many entries an actor had made at a mark
abbrev pub made_at : (actor : ℕ) → List ℕ → ℕ
made_at actor mark = unwrap_or (slice_get mark actor) 0

-- The round in which an actor made the entry that has so many of its own before it. A mark stands before the first round, and one behind each: the
-- round is how many marks come before the first one at which the entry was made.
abbrev pub round_of : List (List ℕ) → (actor earlier : ℕ) → ℕ
round_of marks actor earlier = prefix_len (λ mark. nat_le (made_at actor mark) earlier) marks

-- the round of the entry at an index of a merged journal, in which the entries of each actor stand in their order
abbrev pub round_at : List (List ℕ) → List JournalEntry → ℕ × JournalEntry → ℕ
round_at marks journal x = round_of marks x.1.actor (entries_of x.1.actor (take x.0 journal))

-- the round of each entry
abbrev pub entry_rounds : List (List ℕ) → List JournalEntry → List ℕ
entry_rounds marks journal = map (round_at marks journal) (enumerate_from 0 journal)
