-- One entry behind others, replayed.
use Rattle.std.specs.Prelude.{◌≡◌, ◌++◌, List, [], ◌∷◌, Option, Some, None}
use Rattle.ring_net.specs.declared.entry.JournalEntry.{JournalEntry}
use Rattle.journal_merge.specs.Merges.{IsBefore}
use Rattle.graft_model.specs.Setups.{Setup}
use Rattle.graft_model.specs.Parts.{World}
use Rattle.run_clocks.specs.Clocks.{ClockedEvent, FollowsClocks, clocked}
use Rattle.audit_clocks.specs.declared.clocks.Clocks.{Clocks}
use Rattle.clocked_audits.specs.Timed.{IsTimed}
use Rattle.run_auditor.specs.Sound.{AuditorInvariant}
use Rattle.run_auditor.specs.States.{StandsFor}
use Rattle.run_auditor.specs.Steps.{IsOffTime, IsOfNoEvent, LeadsNowhere, LeadsOn}
use Rattle.run_auditor.specs.declared.audit.Why.{Why}
use Rattle.run_auditor.specs.declared.audit.Why.TheVariants.{Order, Kind, Condition, Clock}
use Rattle.run_auditor.specs.declared.auditor.Auditor.{Auditor}

-- the entry is above the one before it, if there is one
abbrev pub IsAbove : Option JournalEntry → JournalEntry → Type 0
IsAbove None entry = Unit {0}
IsAbove (Some last) entry = IsBefore last entry

-- The entry leads on from a world behind these events, and its clock follows from theirs. The auditor stands for the world to which it leads, and the
-- clocks are those behind it.
pub record IsReplayed (setup : Setup) (entry : JournalEntry) (w : World) (earlier : List ClockedEvent) (new : Auditor) (clocks : Clocks) : Type 0 where
  pub after : World
  pub leads : LeadsOn setup entry w after
  pub stands : StandsFor new after
  pub follows : FollowsClocks earlier (clocked leads.event entry w after)
  pub timed : IsTimed setup after (earlier ++ clocked leads.event entry w after ∷ []) clocks

-- the entry's first fault in a world behind these events, if it has one
abbrev pub ReplaysEntry : Setup → Option JournalEntry → JournalEntry → World → List ClockedEvent → Option Why → Auditor → Clocks → Type 0
ReplaysEntry setup before entry w earlier None new clocks = IsAbove before entry × IsReplayed setup entry w earlier new clocks
ReplaysEntry setup before entry w earlier (Some Order) new clocks = ¬ IsAbove before entry
ReplaysEntry setup before entry w earlier (Some Kind) new clocks = IsAbove before entry × IsOfNoEvent setup entry
ReplaysEntry setup before entry w earlier (Some Condition) new clocks = IsAbove before entry × LeadsNowhere setup entry w
ReplaysEntry setup before entry w earlier (Some Clock) new clocks = IsAbove before entry × IsOffTime setup earlier entry w

-- The auditor has replayed an entry behind another one, beside the clocks, and is sound.
pub record Replays (before : Option JournalEntry) (entry : JournalEntry) (old : Auditor) (clocks : Clocks) (fault : Option Why) (new : Auditor)
    (after : Clocks) : Type 0 where
  pub setup : new.known.setup ≡ old.known.setup
  pub replays : (w : World) (earlier : List ClockedEvent) → StandsFor old w → IsTimed old.known.setup w earlier clocks
      → ReplaysEntry old.known.setup before entry w earlier fault new after
  pub sound : AuditorInvariant new
