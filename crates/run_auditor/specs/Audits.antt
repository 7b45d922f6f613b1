-- Which answers are those of an audit: the journal is that of a run, or its first entry at fault and that entry's first fault are named.
use Rattle.std.specs.Prelude.{ℕ, ◌≡◌, ◌↔◌, List, [], ◌∷◌, ◌++◌, length, Bool, true}
use Rattle.ring_net.specs.declared.entry.JournalEntry.{JournalEntry}
use Rattle.journal_merge.specs.Merges.{IsBefore, AreSorted}
use Rattle.graft_model.specs.Setups.{Setup}
use Rattle.graft_model.specs.Parts.{World}
use Rattle.graft_model.specs.First.{first_world}
use Rattle.graft_model.specs.Quiet.{Quiet}
use Rattle.graft_model.specs.Steps.{Event, Run}
use Rattle.graft_actors.specs.Laws.{AreEntriesOf}
use Rattle.run_clocks.specs.Clocks.{AreClocked, clocked_in}
use Rattle.run_auditor.specs.Steps.{IsOffTime, IsOfNoEvent, LeadsNowhere}
use Rattle.run_auditor.specs.declared.audit.Audit.{Audit}
use Rattle.run_auditor.specs.declared.audit.Audit.TheVariants.{Yes, No}
use Rattle.run_auditor.specs.declared.audit.Why.{Why}
use Rattle.run_auditor.specs.declared.audit.Why.TheVariants.{Order, Kind, Condition, Clock}

-- The entries are in order of clock and actor, and are those of the events of a run, from the first world to this one. Each clock is one above the
-- greater of its actor's clock and the stamp of what its event took, or above all clocks where a group begins.
pub record IsRunTo (setup : Setup) (entries : List JournalEntry) (w : World) : Type 0 where
  pub sorted : AreSorted entries
  pub events : List Event
  pub entries_of : AreEntriesOf setup events entries
  pub run : Run setup (first_world setup) events w
  pub clocks : AreClocked (clocked_in setup (first_world setup) events entries w run)

-- the entry is above the last one before it, by clock and actor
abbrev pub IsInOrder : List JournalEntry → JournalEntry → Type 0
IsInOrder before entry = (front : List JournalEntry) (last : JournalEntry) → before ≡ front ++ last ∷ [] → IsBefore last entry

-- What is at fault with an entry behind those of a run to a world: the first of these that holds.
abbrev pub IsFault : Why → (setup : Setup) (before : List JournalEntry) → JournalEntry → (w : World) → IsRunTo setup before w → Type 0
IsFault Order setup before entry w run = ¬ IsInOrder before entry
IsFault Kind setup before entry w run = IsInOrder before entry × IsOfNoEvent setup entry
IsFault Condition setup before entry w run = IsInOrder before entry × LeadsNowhere setup entry w
IsFault Clock setup before entry w run = IsInOrder before entry × IsOffTime setup (clocked_in setup (first_world setup) run.events before w run.run) entry w

-- The entries before the one at an index are those of a run, and this one is at fault.
pub record IsFirstFault (setup : Setup) (journal : List JournalEntry) (index : ℕ) (why : Why) : Type 0 where
  pub before : List JournalEntry
  pub entry : JournalEntry
  pub rest : List JournalEntry
  pub is : journal ≡ before ++ entry ∷ rest
  pub at : length before ≡ index
  pub world : World
  pub run : IsRunTo setup before world
  pub fault : IsFault why setup before entry world run

-- The journal is that of a run, and this tells whether nothing is left to do at its end.
pub record IsWhole (setup : Setup) (journal : List JournalEntry) (events : ℕ) (quiet : Bool) : Type 0 where
  pub counted : events ≡ length journal
  pub world : World
  pub run : IsRunTo setup journal world
  pub settled : (quiet ≡ true) ↔ Quiet setup world

abbrev pub IsAudit : Setup → List JournalEntry → Audit → Type 0
IsAudit setup journal (Yes events quiet) = IsWhole setup journal events quiet
IsAudit setup journal (No index why) = IsFirstFault setup journal index why
