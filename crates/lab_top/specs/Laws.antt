-- Parts of the headline.
use Rattle.std.specs.Prelude.{ℕ, ◌≡◌, List}
use Rattle.graft_model.specs.Setups.{Setup}
use Rattle.journal_form.specs.Journals.{journal_text}
use Rattle.journal_form.specs.Reading.{AreEntries}
use Rattle.lab_input.specs.Labs.{InputOf}
use Rattle.lab_setup.specs.Setups.{setup_of}
use Rattle.lab_report.specs.declared.lab.Lab.{Lab}
use Rattle.lab_run.specs.Runs.{RanIn, RanLab}
use Rattle.lab_audit.specs.Told.{TellsOf}
use Rattle.lab_audit.specs.declared.audited.AuditEnd.{AuditEnd}
use Rattle.lab_audit.specs.declared.audited.AuditEnd.TheVariants.{Yes}

-- this is said of each run of a lab's own input, whose laboratory is the setup
abbrev pub Says : ((lab : Lab) → (setup : Setup) → RanIn setup lab → Type 0) → Type 0
Says Part = (lab : Lab) (ran : RanLab lab) → Part lab (setup_of lab.input) ran

-- What `journal` writes of a run is the journal of a run to whoever audits it.
abbrev pub JournalsPass : Type 0
JournalsPass = (bytes : List ℕ) (lab : Lab) (told : List ℕ) (end : AuditEnd) → InputOf bytes lab.input → RanLab lab → AreEntries lab.journal
    → TellsOf (journal_text bytes lab.journal) told end → end ≡ Yes
