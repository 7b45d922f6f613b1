-- How a command ends, case by case. `graft_main` says what holds of every end; here is what its parts give.
use Rattle.std.specs.Prelude.{◌≡◌, ℕ, List, false, Option, Some, None, Result, Ok, Err}
use Rattle.graft_edge.specs.Outside.{FaultRose, Took, IsAtEnd}
use Rattle.graft_edge.specs.declared.memory.NoMemory.{NoMemory}
use Rattle.lab_tables.specs.declared.input.LabInput.{LabInput}
use Rattle.lab_input.specs.declared.bad.BadInput.{BadInput}
use Rattle.lab_input.specs.Labs.{input_of, InputOf}
use Rattle.lab_words.specs.declared.job.Form.{Form}
use Rattle.lab_words.specs.declared.job.Job.{Job}
use Rattle.lab_words.specs.declared.job.Job.TheVariants as jobs
use Rattle.lab_words.specs.Asked.{usage_text, version_text, Asks}
use Rattle.lab_words.specs.Hints.{refused_text}
use Rattle.lab_make.specs.Made.{made}
use Rattle.lab_report.specs.declared.lab.Lab.{Lab}
use Rattle.journal_form.specs.Journals.{journal_text}
use Rattle.lab_capture.specs.Captures.{IsLabCapture}
use Rattle.lab_run.specs.Runs.{RanLab}
use Rattle.lab_top.specs.declared.finish.Finish.{Finish}
use Rattle.lab_top.specs.declared.finish.InputStop.{InputStop}
use Rattle.lab_top.specs.declared.finish.InputStop.TheVariants as stops
use Rattle.lab_top.specs.Built.{is_built}
use Rattle.lab_top.specs.Forms.{IsReportIn, summary_in, test_in}
use Rattle.lab_top.specs.declared.views.ViewName.{ViewName}
use Rattle.lab_top.specs.declared.views.ViewName.TheVariants as names
use Rattle.lab_top.specs.Views.{view_named, ShowsView, viewing}
use Rattle.lab_audit.specs.Told.{IsRefusal}
use Rattle.lab_audit.specs.declared.audited.AuditEnd.{AuditEnd}
use Rattle.lab_audit.specs.declared.audited.Told.{Told}
use Rattle.lab_top.specs.Ends.{AreRefused, ReadsInput, ReadsText, ReadsCapture, SaysWhy, TookBadInput, unknown_text, not_built_text, WritesText, SaysVerdict}
use Rattle.lab_top.specs.Ends.{audit_status, end_status, tested_status, verdict_status}

-- what the source and the sink tell
pub record Outside : Type 0 where
  pub left : Option (List ℕ)
  pub read_faults : ℕ
  pub written : Option (List ℕ)
  pub write_faults : ℕ

abbrev pub outside : (left : Option (List ℕ)) → (read_faults : ℕ) → (written : Option (List ℕ)) → (write_faults : ℕ) → Outside
outside left read_faults written write_faults = record { left = left; read_faults = read_faults; written = written; write_faults = write_faults }

-- ---- parts

-- All bytes of a source were taken.
pub record TookWhole (before after : Option (List ℕ)) (bytes : List ℕ) : Type 0 where
  pub took : Took before after bytes
  pub end : IsAtEnd after

-- What was taken from a source is no input, and this is said of it.
abbrev pub RefusesInput : (before after : Option (List ℕ)) → (text : List ℕ) → Type 0
RefusesInput before after text = (bad : BadInput) × (read : ReadsInput before after (Err bad)) × IsRefusal read.bytes bad text

-- Why a source gives no input: it has other bytes; or a read failed, or memory ran out.
abbrev pub GivesNoInput : (before after : Option (List ℕ)) → (faults_before faults_after : ℕ) → InputStop → Type 0
GivesNoInput before after faults_before faults_after (stops.Bad text) = RefusesInput before after text
GivesNoInput before after faults_before faults_after stops.Failed = FaultRose faults_before faults_after
GivesNoInput before after faults_before faults_after stops.NoMemory = Unit {0}

-- the stop of a source whose bytes are refused with a text, or for which memory ran out
abbrev pub stop_with : Result (List ℕ) NoMemory → InputStop
stop_with (Ok text) = stops.Bad text
stop_with (Err _) = stops.NoMemory

-- All bytes of the source, which may be an input.
abbrev pub BytesOrStops : (before after : Option (List ℕ)) → (faults_before faults_after : ℕ) → Result (List ℕ) InputStop → Type 0
BytesOrStops before after faults_before faults_after (Ok bytes) = TookWhole before after bytes
BytesOrStops before after faults_before faults_after (Err stop) = GivesNoInput before after faults_before faults_after stop

-- The source is read as an input, or as none.
abbrev pub ReadsOrStops : (before after : Option (List ℕ)) → (faults_before faults_after : ℕ) → Result LabInput InputStop → Type 0
ReadsOrStops before after faults_before faults_after (Ok input) = ReadsInput before after (Ok input)
ReadsOrStops before after faults_before faults_after (Err stop) = GivesNoInput before after faults_before faults_after stop

-- Bytes are read as what they are; or memory ran out.
abbrev pub AnswersOrStops : List ℕ → Result LabInput InputStop → Type 0
AnswersOrStops bytes (Ok input) = input_of bytes ≡ Ok input
AnswersOrStops bytes (Err (stops.Bad text)) = (bad : BadInput) × (input_of bytes ≡ Err bad) × IsRefusal bytes bad text
AnswersOrStops bytes (Err stops.Failed) = ⊥
AnswersOrStops bytes (Err stops.NoMemory) = Unit {0}

-- A text is written under its status, without a run; or memory ran out before.
abbrev pub WritesOr : (text : List ℕ) → (planned : ℕ) → (faults_before faults_after : ℕ) → (before after : Option (List ℕ)) → Result Finish NoMemory → Type 0
WritesOr text planned faults_before faults_after before after (Ok finish) =
    (finish.lab ≡ None) × WritesText text planned faults_before faults_after before after finish.status
WritesOr text planned faults_before faults_after before after (Err _) = after ≡ before

abbrev pub FailsUnread : (before after : Option (List ℕ)) → Result Finish NoMemory → Type 0
FailsUnread before after (Ok finish) = (finish.lab ≡ None) × (finish.status ≡ 4) × (after ≡ before)
FailsUnread before after (Err _) = ⊥

abbrev pub FindsNone : (before after : Option (List ℕ)) → Result Finish NoMemory → Type 0
FindsNone before after (Ok finish) = ⊥
FindsNone before after (Err _) = after ≡ before

-- An input was run, where the program can run it; or memory ran out.
abbrev pub BuiltOr : LabInput → Result (Option Lab) NoMemory → Type 0
BuiltOr input (Ok None) = is_built input ≡ false
BuiltOr input (Ok (Some lab)) = (lab.input ≡ input) × RanLab lab
BuiltOr input (Err _) = Unit {0}

-- A text of a run is written under a status.
abbrev pub EndsRun : (text : List ℕ) → (planned : ℕ) → Lab → (faults_before faults_after : ℕ) → (before after : Option (List ℕ)) → Finish → Type 0
EndsRun text planned lab faults_before faults_after before after finish =
    (finish.lab ≡ Some lab) × WritesText text planned faults_before faults_after before after finish.status

-- What can't be run yet is refused.
abbrev pub EndsUnbuilt : (faults_before faults_after : ℕ) → (before after : Option (List ℕ)) → Finish → Type 0
EndsUnbuilt faults_before faults_after before after finish =
    (finish.lab ≡ None) × WritesText not_built_text 2 faults_before faults_after before after finish.status

-- What an audit says is written under its status.
abbrev pub EndsAudit : Told → (faults_before faults_after : ℕ) → (before after : Option (List ℕ)) → Finish → Type 0
EndsAudit told faults_before faults_after before after finish =
    (finish.lab ≡ None) × WritesText told.text (audit_status told.end) faults_before faults_after before after finish.status

-- A job ends whose source gave no input.
abbrev pub StopsFor : InputStop → (faults_before faults_after : ℕ) → (before after : Option (List ℕ)) → Result Finish NoMemory → Type 0
StopsFor (stops.Bad text) faults_before faults_after before after end = WritesOr text 2 faults_before faults_after before after end
StopsFor stops.Failed faults_before faults_after before after end = FailsUnread before after end
StopsFor stops.NoMemory faults_before faults_after before after end = FindsNone before after end

-- ---- jobs

-- the jobs that read the source
abbrev pub ReadsSource : Job → Type 0
ReadsSource (jobs.Make seed) = ⊥
ReadsSource (jobs.Drill seed workers form) = ⊥
ReadsSource jobs.Help = ⊥
ReadsSource jobs.Version = ⊥
ReadsSource _ = Unit {0}

-- the jobs that run a laboratory
abbrev pub RunsLab : Job → Type 0
RunsLab (jobs.Check form) = ⊥
RunsLab (jobs.Make seed) = ⊥
RunsLab jobs.Audit = ⊥
RunsLab (jobs.Import home) = ⊥
RunsLab jobs.Help = ⊥
RunsLab jobs.Version = ⊥
RunsLab _ = Unit {0}

-- what a job writes that needs neither a source nor a run
abbrev pub plain_text : Job → Option (List ℕ)
plain_text (jobs.Make seed) = Some (made seed)
plain_text jobs.Help = Some usage_text
plain_text jobs.Version = Some version_text
plain_text _ = None

-- What is run is the laboratory of the seed, or what all bytes of the source are.
abbrev pub Gives : Job → (before after : Option (List ℕ)) → List ℕ → Type 0
Gives (jobs.Drill seed workers form) before after bytes = bytes ≡ made seed
Gives _ before after bytes = TookWhole before after bytes

-- It isn't run, for the reason that the text says.
abbrev pub Refuses : Job → (before after : Option (List ℕ)) → (text : List ℕ) → Type 0
Refuses (jobs.Drill seed workers form) before after text = SaysWhy (made seed) (input_of (made seed)) text
Refuses _ before after text = TookBadInput before after text

-- What is written of a run: its report, its summary, its input and its journal, its capture, a view, or which of its expectations hold.
abbrev pub Tells : Job → (bytes : List ℕ) → Lab → (text : List ℕ) → Type 0
Tells (jobs.Run workers form) bytes lab text = IsReportIn form lab text
Tells (jobs.Drill seed workers form) bytes lab text = text ≡ summary_in form lab
Tells (jobs.Journal workers) bytes lab text = text ≡ journal_text bytes lab.journal
Tells (jobs.Capture workers) bytes lab text = IsLabCapture lab text
Tells (jobs.Timeline workers form) bytes lab text = ShowsView lab (names.Timeline form) text
Tells (jobs.Show workers form) bytes lab text = ShowsView lab (names.Show form) text
Tells (jobs.Story name workers) bytes lab text = ShowsView lab (names.Story name) text
Tells (jobs.Why name prefix workers form) bytes lab text = ShowsView lab (names.Why name prefix form) text
Tells (jobs.Picture workers) bytes lab text = ShowsView lab names.Picture text
Tells (jobs.Test workers form) bytes lab text = text ≡ test_in form lab
Tells _ bytes lab text = ⊥

-- the status under which that is written
abbrev pub job_status : Job → Lab → ℕ
job_status (jobs.Test workers form) lab = tested_status lab
job_status _ lab = end_status lab.end

-- ---- ends

-- The text of a job that is written under a planned status, and its cause.
pub data Cause (job : Job) (left_before left_after : Option (List ℕ)) (text : List ℕ) (planned : ℕ) (lab : Option Lab) : Type 0 where
  tells : plain_text job ≡ Some text → planned ≡ 0 → lab ≡ None → Cause job left_before left_after text planned lab
  checks : (form : Form) (answer : Result LabInput BadInput) → job ≡ jobs.Check form → (read : ReadsInput left_before left_after answer)
      → SaysVerdict form read.bytes answer text
      → planned ≡ verdict_status answer → lab ≡ None → Cause job left_before left_after text planned lab
  audits : (end : AuditEnd) → job ≡ jobs.Audit → ReadsText left_before left_after text end → planned ≡ audit_status end → lab ≡ None
      → Cause job left_before left_after text planned lab
  imports : (home : Option ℕ) → job ≡ jobs.Import home → ReadsCapture home left_before left_after text planned → lab ≡ None
      → Cause job left_before left_after text planned lab
  refuses : RunsLab job → Refuses job left_before left_after text → planned ≡ 2 → lab ≡ None → Cause job left_before left_after text planned lab
  misses : (input : LabInput) (view : ViewName) (workers : ℕ) (name : List ℕ) → job ≡ viewing view workers → ReadsInput left_before left_after (Ok input)
      → view_named input view ≡ Err name → text ≡ unknown_text input name → planned ≡ 2 → lab ≡ None → Cause job left_before left_after text planned lab
  runs : (bytes : List ℕ) (end : Lab) → RunsLab job → Gives job left_before left_after bytes → InputOf bytes end.input → Tells job bytes end text
      → RanLab end → planned ≡ job_status job end → lab ≡ Some end → Cause job left_before left_after text planned lab

-- A text of a job was written, whole or in part; or a read failed.
pub data Did (job : Job) (before after : Outside) (status : ℕ) (lab : Option Lab) : Type 0 where
  wrote : (text : List ℕ) (planned : ℕ) → Cause job before.left after.left text planned lab
      → WritesText text planned before.write_faults after.write_faults before.written after.written status → Did job before after status lab
  unread : ReadsSource job → status ≡ 4 → FaultRose before.read_faults after.read_faults → after.written ≡ before.written → lab ≡ None
      → Did job before after status lab

-- The words are refused, or a job is done that they ask for; or memory ran out.
pub data Ended (words : List (List ℕ)) (before after : Outside) (status : ℕ) (lab : Option Lab) : Type 0 where
  refused : AreRefused words → WritesText (refused_text words) 1 before.write_faults after.write_faults before.written after.written status → lab ≡ None
      → Ended words before after status lab
  did : (job : Job) → Asks words job → Did job before after status lab → Ended words before after status lab
  no_memory : status ≡ 6 → after.written ≡ before.written → lab ≡ None → Ended words before after status lab

-- The job is done; or memory ran out before anything was written.
abbrev pub DidOr : Job → Outside → Outside → Result Finish NoMemory → Type 0
DidOr job before after (Ok finish) = Did job before after finish.status finish.lab
DidOr job before after (Err _) = after.written ≡ before.written

-- The command ended; or memory ran out before anything was written.
abbrev pub EndsOr : List (List ℕ) → Outside → Outside → Result Finish NoMemory → Type 0
EndsOr words before after (Ok finish) = Ended words before after finish.status finish.lab
EndsOr words before after (Err _) = after.written ≡ before.written
