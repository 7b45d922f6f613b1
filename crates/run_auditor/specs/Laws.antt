-- What the answer of an audit says of a journal.
use Rattle.std.specs.Prelude.{ℕ, ◌≡◌, ◌<◌, List, Bool, true}
use Rattle.ring_net.specs.declared.entry.JournalEntry.{JournalEntry}
use Rattle.graft_model.specs.Setups.{Setup, IsSetup, peerings_in}
use Rattle.graft_model.specs.Parts.{World}
use Rattle.graft_model.specs.First.{first_world}
use Rattle.graft_model.specs.Claims.{Solves, Transparent, Unchanged}
use Rattle.graft_laws.specs.Ranges.{IsInRange}
use Rattle.run_auditor.specs.Audits.{IsAudit, IsRunTo}
use Rattle.run_auditor.specs.declared.audit.Audit.{Audit}
use Rattle.run_auditor.specs.declared.audit.Audit.TheVariants.{Yes, No}
use Rattle.run_auditor.specs.declared.audit.Why.{Why}

-- The journal is that of a run. Each peering is transparent at its end, a refused graft left its session as it was, and if nothing is left to do the
-- tables solve the decision equations.
pub record TellsOfARun (setup : Setup) (journal : List JournalEntry) (quiet : Bool) : Type 0 where
  pub world : World
  pub run : IsRunTo setup journal world
  pub transparent : (p : ℕ) → p < peerings_in setup → Transparent setup world p
  pub unchanged : Unchanged setup (first_world setup) run.events
  pub solves : quiet ≡ true → Solves setup world

abbrev pub YesTellsOfARun : Type 0
YesTellsOfARun = (setup : Setup) (journal : List JournalEntry) (events : ℕ) (quiet : Bool) → IsSetup setup → IsAudit setup journal (Yes events quiet)
    → TellsOfARun setup journal quiet

abbrev pub NoTellsOfNone : Type 0
NoTellsOfNone = (setup : Setup) (journal : List JournalEntry) (index : ℕ) (why : Why) (w : World) → IsSetup setup → IsInRange setup
    → IsAudit setup journal (No index why) → ¬ IsRunTo setup journal w

abbrev pub OneAnswer : Type 0
OneAnswer = (setup : Setup) (journal : List JournalEntry) (one other : Audit) → IsSetup setup → IsInRange setup → IsAudit setup journal one
    → IsAudit setup journal other → one ≡ other
