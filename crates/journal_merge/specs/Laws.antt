-- The laws of merged journals.
use Rattle.std.specs.Prelude.{ℕ, ◌≡◌, ◌==◌, ◌<◌, if◌then◌else◌, ◌↔◌, Bool, List, [], ◌∷◌, ◌++◌, length, take, slice_index_or}
use Rattle.ring_net.specs.declared.entry.JournalEntry.{JournalEntry}
use Rattle.ring_net.specs.Deeds.{Deed, Noted, Makes, noted, entries_of}
use Rattle.ring_net.specs.Journals.{AreJournals}
use Rattle.ring_net.specs.Phases.{View, NetPhase, Between, Levelled, AllAt, InOrder}
use Rattle.journal_merge.specs.Merges.{IsMerged, Interleaves, upto, IsCut}
use Rattle.journal_merge.specs.Worlds.{DeedWorld, DeedRun}
use Rattle.journal_merge.specs.Growth.{IsWorldOf, Grew, RunsTo}

-- there is exactly one merge
abbrev pub MergedOnce : Type 0
MergedOnce = (journals : List (List JournalEntry)) (xs ys : List JournalEntry) → IsMerged journals xs → IsMerged journals ys → xs ≡ ys

abbrev pub InterleavedOnce : Type 0
InterleavedOnce = (journals : ℕ → List JournalEntry) (xs ys : List JournalEntry) → Interleaves journals xs → Interleaves journals ys → xs ≡ ys

-- in the merge of journals the entries of each actor are its journal, and no other sorted list has this property
abbrev pub MergedEach : Type 0
MergedEach = (journals : List (List JournalEntry)) (merged : List JournalEntry) → AreJournals journals
    → IsMerged journals merged ↔ Interleaves (λ k. slice_index_or journals k []) merged

-- the entries before a mark are the merge of what each journal has before it
abbrev pub MergedUpto : Type 0
MergedUpto = (journals : ℕ → List JournalEntry) (merged : List JournalEntry) (mark : ℕ → ℕ) → Interleaves journals merged
    → Interleaves (λ k. take (mark k) (journals k)) (upto mark merged)

-- a run followed by a run is a run
abbrev pub RunsJoin : {P I : Type 0} (makes : Makes P I) → Type 0
RunsJoin {P} {I} makes = (w m v : DeedWorld P I) (ds es : List (Deed I)) → DeedRun makes w ds m → DeedRun makes m es v → DeedRun makes w (ds ++ es) v

module _ {A P I : Type 0} (part : A → P) (makes : Makes P I) where
  -- if all clocks are level, the merge of what is added to the journals from then on stands behind the merge of what they had
  abbrev pub CutsAtLevel : Type 0
  CutsAtLevel = (u v : View A I) (levels : List ℕ) (notes : ℕ → List (Noted I)) (clock : ℕ) (merged : List JournalEntry) → InOrder u → AllAt u clock
      → Grew part makes u v levels notes
      → Interleaves v.journal merged → IsCut u.journal (λ k. entries_of (notes k)) merged

  -- the merge of what was added to the journals is a run
  abbrev pub MergeRuns : Type 0
  MergeRuns = (u v : View A I) (levels : List ℕ) (notes : ℕ → List (Noted I)) (merged : List JournalEntry) (w : DeedWorld P I)
      → Grew part makes u v levels notes → Interleaves (λ k. entries_of (notes k)) merged
      → IsWorldOf part u w → RunsTo part makes u w levels notes merged v

  -- one piece after another is a piece
  abbrev pub GrowsOn : Type 0
  GrowsOn = (u v t : View A I) (ls ms : List ℕ) (first second : ℕ → List (Noted I)) → Grew part makes u v ls first → Grew part makes v t ms second
      → Grew part makes u t (ls ++ ms) (λ k. first k ++ second k)

  abbrev pub LevelGrows : Type 0
  LevelGrows = (u v : View A I) (level : Levelled u v) → Grew part makes u v (level.clock ∷ []) (λ k. [])

  abbrev pub PhaseGrows : (took : A → ℕ → I → List (Deed I) → A → Type 0) (turned : A → List (Deed I) → A → Type 0) → Type 0
  PhaseGrows took turned = (u v : View A I) (phase : NetPhase part makes took turned u v) → Grew part makes u v [] phase.notes

  -- the events at a mark take nothing, so their stamps are 0
  abbrev pub at_mark : ℕ → List (Deed I) → ℕ → List (Noted I)
  at_mark k ds n = if n == k then noted 0 ds else []

  abbrev pub BetweenGrows : (paused : A → List (Deed I) → A → Type 0) → Type 0
  BetweenGrows paused = (u v : View A I) (k : ℕ) (answer : Bool) → k < length u.actors → (did : Between part makes paused k u v answer)
      → Grew part makes u v (did.from ∷ did.to ∷ []) (at_mark k did.deeds)
