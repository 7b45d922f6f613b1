-- What an entry is to a world, and the answers to it.
use Rattle.std.specs.Prelude.{ℕ, ◌≡◌, true, List, Option, None}
use Rattle.ring_net.specs.declared.entry.JournalEntry.{JournalEntry}
use Rattle.graft_model.specs.Setups.{Setup}
use Rattle.graft_model.specs.Parts.{World}
use Rattle.graft_model.specs.Steps.{Event, Step}
use Rattle.graft_actors.specs.Laws.{IsEntryOf, maker_of}
use Rattle.world_runs.specs.Marks.{is_go}
use Rattle.run_clocks.specs.Clocks.{ClockedEvent, FollowsClocks, clocked}
use Rattle.clocked_audits.specs.Timed.{MovesItems}
use Rattle.spelled_events.specs.Spelled.{IsSpelled}
use Rattle.run_auditor.specs.Sound.{AuditorInvariant}
use Rattle.run_auditor.specs.States.{StandsFor}
use Rattle.run_auditor.specs.declared.auditor.Auditor.{Auditor}
use Rattle.run_auditor.specs.declared.step.Step.{Step as Answer}
use Rattle.run_auditor.specs.declared.step.Step.TheVariants.{Made, Kind, Condition}

-- The entry's kind and arguments are those of no event of its actor.
abbrev pub IsOfNoEvent : Setup → JournalEntry → Type 0
IsOfNoEvent setup entry = (event : Event) → IsSpelled event → ¬ IsEntryOf setup event entry

-- The entry is that of an event that leads from one world to another.
pub record LeadsOn (setup : Setup) (entry : JournalEntry) (before after : World) : Type 0 where
  pub event : Event
  pub spelled : IsSpelled event
  pub entry_of : IsEntryOf setup event entry
  pub step : Step setup event before after

-- The entry is that of an event that leads to no world.
pub record LeadsNowhere (setup : Setup) (entry : JournalEntry) (before : World) : Type 0 where
  pub event : Event
  pub spelled : IsSpelled event
  pub entry_of : IsEntryOf setup event entry
  pub none : (after : World) → ¬ Step setup event before after

-- The entry leads on, but its clock isn't the one that follows from those of these events.
pub record IsOffTime (setup : Setup) (earlier : List ClockedEvent) (entry : JournalEntry) (before : World) : Type 0 where
  pub after : World
  pub leads : LeadsOn setup entry before after
  pub off : ¬ FollowsClocks earlier (clocked leads.event entry before after)

-- The auditor stands for the world to which the entry leads. Its event takes an item from a sender and sends one to a receiver, if these are named by
-- number; where a group begins, neither is.
pub record IsMade (setup : Setup) (entry : JournalEntry) (before : World) (from to : Option ℕ) (new : Auditor) : Type 0 where
  pub after : World
  pub leads : LeadsOn setup entry before after
  pub stands : StandsFor new after
  pub moves : MovesItems setup before after (maker_of leads.event) from to
  pub at_go : is_go entry ≡ true → (from ≡ None) × (to ≡ None)

-- The answer to an entry in a world: the auditor stands for the world to which the entry leads, or still for the same one.
abbrev pub AnswersEntry : Answer → Setup → JournalEntry → World → Auditor → Type 0
AnswersEntry (Made from to) setup entry w new = IsMade setup entry w from to new
AnswersEntry Kind setup entry w new = IsOfNoEvent setup entry × StandsFor new w
AnswersEntry Condition setup entry w new = LeadsNowhere setup entry w × StandsFor new w

-- The auditor has taken an entry: this is the answer in the world for which it stood, and it is sound.
pub record TakesEntry (entry : JournalEntry) (old : Auditor) (answer : Answer) (new : Auditor) : Type 0 where
  pub setup : new.known.setup ≡ old.known.setup
  pub answers : (w : World) → StandsFor old w → AnswersEntry answer old.known.setup entry w new
  pub sound : AuditorInvariant new
