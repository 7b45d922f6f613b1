-- The entries before a mark in the merged journal of a net, and between two marks.
use Rattle.std.specs.Prelude.{ℕ, ◌≡◌, ◌+◌, ◌-◌, ◌==◌, ◌↔◌, Bool, List, [], ◌∷◌, ◌++◌, length, filter, take, drop, None, slice_index_or}
use Rattle.std.specs.List.{AllByRecursion}
use Rattle.ring_net.specs.declared.entry.JournalEntry.{JournalEntry}
use Rattle.ring_net.specs.Phases.{View}
use Rattle.journal_merge.specs.Merges.{Interleaves, entries_by, upto}
use Rattle.graft_steps.specs.declared.item.Item.{Item}
use Rattle.session_value.specs.Sessions.{SessionValue}
use Rattle.graft_model.specs.declared.event.OperatorEvent.TheVariants.{Go}
use Rattle.graft_model.specs.Codes.{operator_code}
use Rattle.graft_model.specs.Setups.{Setup, routers_in, peerings_in}
use Rattle.graft_model.specs.Parts.{OperatorPart, World}
use Rattle.graft_model.specs.First.{first_world}
use Rattle.graft_model.specs.Steps.{Event, Run}
use Rattle.graft_model.specs.Quiet.{Quiet}
use Rattle.settled_check.specs.Left.{HasUnissued, IsOpen}
use Rattle.graft_actors.specs.Actors.{OperatorIs, Operator}
use Rattle.graft_actors.specs.Laws.{AreEntriesOf, IsGo}
use Rattle.graft_actors.specs.Acts.{OwnPart, ActsAs}
use Rattle.world_runs.specs.Runs.{IsSeenAs, Ran}

-- ---- before a mark

-- the number of an actor's entries before a mark
abbrev pub before : List ℕ → ℕ → ℕ
before mark k = slice_index_or mark k 0

-- The entries before a mark are those of a run to this world.
pub record IsWorldAtMark (setup : Setup) (journal : List JournalEntry) (mark : List ℕ) (w : World) : Type 0 where
  pub events : List Event
  pub entries_of : AreEntriesOf setup events (upto (before mark) journal)
  pub run : Run setup (first_world setup) events w

-- A mark has the length of each journal of a view, and the journals of a later one go on from there.
pub record IsMarkOf {A I : Type 0} (u v : View A I) (mark : List ℕ) : Type 0 where
  pub lengths : (k : ℕ) → before mark k ≡ length (u.journal k)
  pub later : (k : ℕ) → (more : List JournalEntry) × (v.journal k ≡ u.journal k ++ more)

module _ {A C : Type 0} (own : A → OwnPart) (session : C → SessionValue) where
  -- the entries before a mark of the journal of v are those of a run to a world as which u is seen
  abbrev pub MarksStandForWorlds : Type 0
  MarksStandForWorlds = (setup : Setup) (u v : View A (Item C)) (mark : List ℕ) (journal : List JournalEntry) → IsMarkOf u v mark
      → Interleaves v.journal journal → Ran own session setup u
      → (w : World) × IsWorldAtMark setup journal mark w × IsSeenAs own session setup u w

-- ---- groups

-- the operator's number: the operator is the last actor
abbrev pub operator_number : Setup → ℕ
operator_number setup = routers_in setup + peerings_in setup

abbrev pub is_go : JournalEntry → Bool
is_go entry = entry.kind == (operator_code Go).kind

-- the number of the current group after a run is the number of groups that the operator's entries begin
abbrev pub GroupsAreCounted : Type 0
GroupsAreCounted = (setup : Setup) (events : List Event) (entries : List JournalEntry) (w : World) → AreEntriesOf setup events entries
    → Run setup (first_world setup) events w
    → w.operator.group ≡ length (filter is_go (entries_by (operator_number setup) entries))

-- the operator's entries between two marks
abbrev pub noted_between : Setup → List JournalEntry → (mark next : List ℕ) → List JournalEntry
noted_between setup journal mark next = take (before next (operator_number setup) - before mark (operator_number setup))
    (drop (before mark (operator_number setup)) (entries_by (operator_number setup) journal))

-- no group begins
abbrev pub BeginsNone : List JournalEntry → Type 0
BeginsNone entries = AllByRecursion (λ entry. ¬ IsGo entry) entries

-- a group begins with the first entry, and none with any other
abbrev pub BeginsWithGo : List JournalEntry → Type 0
BeginsWithGo [] = ⊥
BeginsWithGo (entry ∷ entries) = IsGo entry × BeginsNone entries

-- the operator's entries between two marks begin a group at once, and no other
abbrev pub GoFollows : Setup → List JournalEntry → (mark next : List ℕ) → Type 0
GoFollows setup journal mark next = BeginsWithGo (noted_between setup journal mark next)

-- the operator's entries between two marks begin no group
abbrev pub NoGoFollows : Setup → List JournalEntry → (mark next : List ℕ) → Type 0
NoGoFollows setup journal mark next = BeginsNone (noted_between setup journal mark next)

-- each of the two holds exactly if it holds for the entries that the operator's journal gained between the two marks
abbrev pub GroupsAreSeen : Type 0
GroupsAreSeen = (setup : Setup) (journal : List JournalEntry) (mark next : List ℕ) (had new more : List JournalEntry)
    → entries_by (operator_number setup) journal ≡ (had ++ new) ++ more
    → before mark (operator_number setup) ≡ length had → before next (operator_number setup) ≡ length (had ++ new)
    → (GoFollows setup journal mark next ↔ BeginsWithGo new) × (NoGoFollows setup journal mark next ↔ BeginsNone new)

-- in a quiet world each step of the current group was issued, and no graft of it is outstanding
abbrev pub QuietHasNothingOpen : Type 0
QuietHasNothingOpen = (setup : Setup) (w : World) → Quiet setup w → (¬ HasUnissued setup w.operator) × ((k : ℕ) → ¬ IsOpen setup w.operator k)

-- what the operator does in a quiet world without an item begins a group: there is no step to issue
abbrev pub QuietActsBeginGroups : {C : Type 0} (session : C → SessionValue) → Type 0
QuietActsBeginGroups {C} session = (setup : Setup) (part : OperatorPart) (entry : JournalEntry) (sent : List (ℕ × Item C)) (after : OwnPart)
    → ¬ HasUnissued setup part
    → ActsAs session (record { setup = setup; name = Operator; part = OperatorIs part }) entry None sent after → IsGo entry
