-- Journals: each actor's own entries, in the order of their clocks.
use Rattle.std.specs.Prelude.{ℕ, ◌≡◌, ◌<◌, List, [], ◌∷◌, slice_index_or}
use Rattle.std.specs.List.{AllByRecursion, AllByRecursion-prop}
use mathlib.Core.HLevel.{×_prop, Unit-prop}
use native.Mathlib.Bridge.{le_prop}
use Rattle.ring_net.specs.declared.entry.JournalEntry.{JournalEntry}

-- the clocks of the entries ascend
abbrev pub ClocksRise : List JournalEntry → Type 0
ClocksRise [] = Unit {0}
ClocksRise (e ∷ es) = AllByRecursion (λ f. e.clock < f.clock) es × ClocksRise es

pub ClocksRise-prop : (es : List JournalEntry) → IsProp (ClocksRise es)
ClocksRise-prop [] = Unit-prop
ClocksRise-prop (e ∷ es) = ×_prop (AllByRecursion-prop (λ f. e.clock < f.clock) (λ f. le_prop) es) (ClocksRise-prop es)

-- the entries are those of the actor of this number, and their clocks ascend
pub record IsJournal (k : ℕ) (entries : List JournalEntry) : Type 0 where
  pub own : AllByRecursion (λ e. e.actor ≡ k) entries
  pub rising : ClocksRise entries

-- the journals of actors, by number
abbrev pub AreJournals : List (List JournalEntry) → Type 0
AreJournals journals = (k : ℕ) → IsJournal k (slice_index_or journals k [])
