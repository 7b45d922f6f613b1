-- What the merge of journals is.
use Rattle.std.specs.Prelude.{ℕ, ◌≡◌, ◌<◌, ◌-◌, ◌==◌, if◌then◌else◌, ◌⊎◌, Bool, false, List, [], ◌∷◌, ◌++◌, filter, flat_map, IsPermutation}
use Rattle.std.specs.List.{AllByRecursion}
use Rattle.std.specs.Ordering.{is_lt, nat_cmp, ordering_then}
use Rattle.ring_net.specs.declared.entry.JournalEntry.{JournalEntry}

-- by clock, and at the same clock by actor
abbrev pub IsBefore : JournalEntry → JournalEntry → Type 0
IsBefore e f = (e.clock < f.clock) ⊎ ((e.clock ≡ f.clock) × (e.actor < f.actor))

-- the same as a Bool
abbrev pub by_clock : JournalEntry → JournalEntry → Bool
by_clock e f = is_lt (ordering_then (nat_cmp e.clock f.clock) (nat_cmp e.actor f.actor))

-- each entry is before all that are behind it
abbrev pub AreSorted : List JournalEntry → Type 0
AreSorted [] = Unit {0}
AreSorted (e ∷ es) = AllByRecursion (IsBefore e) es × AreSorted es

-- no entry is behind one that it is before
abbrev pub NoneBefore : List JournalEntry → Type 0
NoneBefore [] = Unit {0}
NoneBefore (e ∷ es) = AllByRecursion (λ f. by_clock f e ≡ false) es × NoneBefore es

-- the same for each list
abbrev pub AllOrdered : List (List JournalEntry) → Type 0
AllOrdered runs = AllByRecursion NoneBefore runs

-- The merge of journals: all their entries, each as often as in the journals, by clock and actor.
pub record IsMerged (journals : List (List JournalEntry)) (merged : List JournalEntry) : Type 0 where
  pub all : IsPermutation (flat_map (λ entries. entries) journals) merged
  pub sorted : AreSorted merged

-- the entries of one actor, in their order
abbrev pub entries_by : ℕ → List JournalEntry → List JournalEntry
entries_by k es = filter (λ e. e.actor == k) es

-- The same for journals by number: the entries of each actor are its journal, and all are in order of clock and actor.
pub record Interleaves (journals : ℕ → List JournalEntry) (merged : List JournalEntry) : Type 0 where
  pub each : (k : ℕ) → entries_by k merged ≡ journals k
  pub sorted : AreSorted merged

-- one less at one index
abbrev pub less_at : (ℕ → ℕ) → ℕ → ℕ → ℕ
less_at mark k n = if n == k then mark n - 1 else mark n

-- the entries before a mark: of each actor the first ones, as many as the mark says
abbrev pub upto : (ℕ → ℕ) → List JournalEntry → List JournalEntry
upto mark [] = []
upto mark (e ∷ es) = if mark e.actor == 0 then upto mark es else e ∷ upto (less_at mark e.actor) es

-- A merged list in two parts, each of which is a merge.
pub record IsCut (before after : ℕ → List JournalEntry) (merged : List JournalEntry) : Type 0 where
  pub front : List JournalEntry
  pub back : List JournalEntry
  pub whole : merged ≡ front ++ back
  pub first : Interleaves before front
  pub second : Interleaves after back
