-- How a command ends: what its status says of the words, the source and the sink.
use Rattle.std.specs.Prelude.{◌≡◌, ◌⊎◌, ℕ, ◌<◌, ◌≤◌, false, List, ◌∷◌, ◌++◌, length, Option, Result, Ok, Err, codes}
use Rattle.graft_edge.specs.Outside.{FaultRose, Took, IsAtEnd, Appended, AppendedFront}
use Rattle.lab_tables.specs.declared.input.LabInput.{LabInput}
use Rattle.lab_input.specs.declared.bad.BadInput.{BadInput}
use Rattle.lab_input.specs.declared.bad.BadInput.TheVariants.{Unknown}
use Rattle.lab_top.specs.Built.{is_built}
use Rattle.lab_input.specs.Labs.{input_of, InputOf, too_long}
use Rattle.lab_hints.specs.Later.{unknown_words}
use Rattle.lab_hints.specs.Hints.{hint_line}
use Rattle.lab_audit.specs.Told.{IsRefusal, TellsOf, long_text, most_text}
use Rattle.lab_audit.specs.declared.audited.AuditEnd.{AuditEnd}
use Rattle.lab_audit.specs.declared.audited.AuditEnd.TheVariants as audit_ends
use Rattle.lab_words.specs.declared.job.Form.{Form}
use Rattle.lab_words.specs.declared.job.Job.{Job}
use Rattle.lab_words.specs.declared.job.Job.TheVariants.{Run, Check, Make, Drill, Journal, Audit, Capture, Import, Test, Help, Version}
use Rattle.lab_words.specs.Asked.{usage_text, version_text, Asks}
use Rattle.lab_make.specs.Made.{made}
use Rattle.lab_report.specs.declared.lab.Lab.{Lab}
use Rattle.lab_report.specs.declared.lab.RunEnd.{RunEnd}
use Rattle.lab_report.specs.declared.lab.RunEnd.TheVariants.{Settled, Unsettled, StreamFull, JournalFull}
use Rattle.lab_report.specs.BadText.{bad_line}
use Rattle.journal_form.specs.Journals.{journal_text}
use Rattle.lab_capture.specs.Captures.{IsLabCapture}
use Rattle.lab_import.specs.Captures.{fault_line, IsFault, IsImported, most_capture}
use Rattle.lab_import.specs.declared.capture.CaptureFault.{CaptureFault}
use Rattle.lab_import.specs.declared.capture.CaptureFault.TheVariants as capture_faults
use Rattle.expect_view.specs.Expect.{all_hold, test_status}
use Rattle.lab_top.specs.declared.views.ViewName.{ViewName}
use Rattle.lab_top.specs.Forms.{accepted_in, IsReportIn}
use Rattle.lab_top.specs.Views.{view_named, ShowsView, viewing}

-- ---- words

-- The words ask for no job.
abbrev pub AreRefused : List (List ℕ) → Type 0
AreRefused words = (job : Job) → ¬ (Asks words job)

-- They ask for a check, in this form.
abbrev pub AskToCheck : List (List ℕ) → Form → Type 0
AskToCheck words form = Asks words (Check form)

-- They ask for the report of a run, by some number of workers.
abbrev pub AskToRun : List (List ℕ) → Form → Type 0
AskToRun words form = (workers : ℕ) × Asks words (Run workers form)

-- They ask for its journal.
abbrev pub AskForJournal : List (List ℕ) → Type 0
AskForJournal words = (workers : ℕ) × Asks words (Journal workers)

-- They ask for its capture.
abbrev pub AskForCapture : List (List ℕ) → Type 0
AskForCapture words = (workers : ℕ) × Asks words (Capture workers)

-- They ask for the laboratory of a capture, with its home side at this address or at BGP's port.
abbrev pub AskToImport : List (List ℕ) → (home : Option ℕ) → Type 0
AskToImport words home = Asks words (Import home)

-- They ask whether a journal is that of a run.
abbrev pub AskToAudit : List (List ℕ) → Type 0
AskToAudit words = Asks words Audit

-- They ask which of its expectations hold.
abbrev pub AskToTest : List (List ℕ) → Form → Type 0
AskToTest words form = (workers : ℕ) × Asks words (Test workers form)

-- They ask for a view of it.
abbrev pub AskToView : List (List ℕ) → ViewName → Type 0
AskToView words name = (workers : ℕ) × Asks words (viewing name workers)

-- They ask for a run of what the source has.
abbrev pub RunsSource : List (List ℕ) → Type 0
RunsSource words =
    ((form : Form) × AskToRun words form) ⊎ AskForJournal words ⊎ AskForCapture words ⊎ ((form : Form) × AskToTest words form)
    ⊎ ((name : ViewName) × AskToView words name)

-- They ask for a run of the laboratory of this seed, and for its summary.
abbrev pub AskToSum : List (List ℕ) → ℕ → Form → Type 0
AskToSum words seed form = (workers : ℕ) × Asks words (Drill seed workers form)

abbrev pub AskToDrill : List (List ℕ) → ℕ → Type 0
AskToDrill words seed = (form : Form) × AskToSum words seed form

-- They ask for a run.
abbrev pub AskForLab : List (List ℕ) → Type 0
AskForLab words = RunsSource words ⊎ ((seed : ℕ) × AskToDrill words seed)

-- They ask for the laboratory of some seed.
abbrev pub AskToMake : List (List ℕ) → Type 0
AskToMake words = (seed : ℕ) × Asks words (Make seed)

-- They ask for a line that the program says of itself.
abbrev pub AskForLine : List (List ℕ) → List ℕ → Type 0
AskForLine words line = (Asks words Help × (line ≡ usage_text)) ⊎ (Asks words Version × (line ≡ version_text))

-- The source isn't read for them.
abbrev pub AskUnread : List (List ℕ) → Type 0
AskUnread words = AreRefused words ⊎ AskToMake words ⊎ ((seed : ℕ) × AskToDrill words seed) ⊎ ((line : List ℕ) × AskForLine words line)

-- ---- the source

-- Bytes were taken from a source, and this is what they are read as: all that there were, or more than 4 MiB, which is a fault.
pub record ReadsInput (before after : Option (List ℕ)) (answer : Result LabInput BadInput) : Type 0 where
  pub bytes : List ℕ
  pub took : Took before after bytes
  pub enough : IsAtEnd after ⊎ ((4194304 < length bytes) × (answer ≡ Err too_long))
  pub is : input_of bytes ≡ answer

-- All bytes of a source were taken, and are this input.
pub record TookInput (before after : Option (List ℕ)) (input : LabInput) : Type 0 where
  pub bytes : List ℕ
  pub took : Took before after bytes
  pub end : IsAtEnd after
  pub is : InputOf bytes input

-- what is said of an input that hasn't the router or peering of this name
abbrev pub unknown_text : LabInput → List ℕ → List ℕ
unknown_text input name = bad_line (Unknown name) ++ hint_line (unknown_words input name)

abbrev pub not_built_text : List ℕ
not_built_text = codes "bad input: not built" ++ 10 ∷ hint_line (codes "a router with by_bytes can be checked, and not run yet")

-- The text says why what was read from these bytes isn't run: its first fault, or that the program can't run such an input yet.
abbrev pub SaysWhy : List ℕ → Result LabInput BadInput → List ℕ → Type 0
SaysWhy bytes (Ok input) text = (is_built input ≡ false) × (text ≡ not_built_text)
SaysWhy bytes (Err bad) text = IsRefusal bytes bad text

-- What was taken from a source isn't run, for the reason that the text says.
pub record TookBadInput (before after : Option (List ℕ)) (text : List ℕ) : Type 0 where
  pub answer : Result LabInput BadInput
  pub read : ReadsInput before after answer
  pub why : SaysWhy read.bytes answer text

-- What was taken from a source is an input, but it hasn't the router or peering that the words name, and the text says so.
pub record NamesUnknown (words : List (List ℕ)) (before after : Option (List ℕ)) (text : List ℕ) : Type 0 where
  pub input : LabInput
  pub view : ViewName
  pub name : List ℕ
  pub read : ReadsInput before after (Ok input)
  pub asks : AskToView words view
  pub none : view_named input view ≡ Err name
  pub says : text ≡ unknown_text input name

-- Bytes were taken from a source, and this is what an audit says of them: of all that there were, at most 256 MiB, or that they are more.
pub record ReadsText (before after : Option (List ℕ)) (text : List ℕ) (end : AuditEnd) : Type 0 where
  pub bytes : List ℕ
  pub took : Took before after bytes
  pub says :
      (IsAtEnd after × (length bytes ≤ most_text) × TellsOf bytes text end) ⊎ ((most_text < length bytes) × (text ≡ long_text) × (end ≡ audit_ends.NoJournal))

-- What was taken from a source is to be audited and is no journal, for the reason that the text says.
abbrev pub TookNoJournal : (words : List (List ℕ)) → (before after : Option (List ℕ)) → (text : List ℕ) → Type 0
TookNoJournal words before after text = AskToAudit words × ReadsText before after text audit_ends.NoJournal

-- what is said of a capture with more octets than one may have
abbrev pub long_capture : List ℕ
long_capture = fault_line (capture_faults.Form most_capture)

-- The text is the laboratory that is imported from these octets, or the line for their fault; and this is its status.
abbrev pub SaysImport : (home : Option ℕ) → List ℕ → (text : List ℕ) → (status : ℕ) → Type 0
SaysImport home octets text status =
    (IsImported home octets text × (status ≡ 0)) ⊎ ((fault : CaptureFault) × IsFault home octets fault × (text ≡ fault_line fault) × (status ≡ 2))

-- Octets were taken from a source, and this is what is imported of them: of all that there were, at most 256 MiB, or that they are more.
pub record ReadsCapture (home : Option ℕ) (before after : Option (List ℕ)) (text : List ℕ) (status : ℕ) : Type 0 where
  pub octets : List ℕ
  pub took : Took before after octets
  pub says :
      (IsAtEnd after × (length octets ≤ most_capture) × SaysImport home octets text status)
      ⊎ ((most_capture < length octets) × (text ≡ long_capture) × (status ≡ 2))

-- What was taken from a source is to be imported and isn't, for the reason that the text says.
abbrev pub TookNoCapture : (words : List (List ℕ)) → (before after : Option (List ℕ)) → (text : List ℕ) → Type 0
TookNoCapture words before after text = (home : Option ℕ) × AskToImport words home × ReadsCapture home before after text 2

-- What is to be checked or run is none, for the reason that the text says: what was taken from a source, or the laboratory of a seed; or it hasn't
-- what the words name; or what is to be audited is no journal; or what is to be imported isn't.
abbrev pub GaveBadInput : (words : List (List ℕ)) → (before after : Option (List ℕ)) → (text : List ℕ) → Type 0
GaveBadInput words before after text =
    TookBadInput before after text ⊎ ((seed : ℕ) × AskToDrill words seed × SaysWhy (made seed) (input_of (made seed)) text)
    ⊎ NamesUnknown words before after text ⊎ TookNoJournal words before after text ⊎ TookNoCapture words before after text

-- ---- the sink

-- 0 all was done, 1 refused words, 2 refused input, 3 a run that didn't settle, 4 a read failed, 5 a write failed, 6 no memory, 7 a run that met a limit,
-- 8 a journal that no run has, 9 a settled run of which an expectation doesn't hold
abbrev pub IsStatus : ℕ → Type 0
IsStatus status =
    (status ≡ 0) ⊎ (status ≡ 1) ⊎ (status ≡ 2) ⊎ (status ≡ 3) ⊎ (status ≡ 4) ⊎ (status ≡ 5) ⊎ (status ≡ 6) ⊎ (status ≡ 7) ⊎ (status ≡ 8) ⊎ (status ≡ 9)

-- the status under which the report of a run is written
abbrev pub end_status : RunEnd → ℕ
end_status Settled = 0
end_status (Unsettled step rounds pending) = 3
end_status (StreamFull peering length) = 7
end_status (JournalFull events) = 7

-- the status under which it is written which expectations of a run hold
abbrev pub tested_status : Lab → ℕ
tested_status lab = test_status (end_status lab.end) lab.end (all_hold lab)

-- The run is settled, and an expectation doesn't hold.
abbrev pub HasFailed : Lab → Type 0
HasFailed lab = (lab.end ≡ Settled) × (all_hold lab ≡ false)

-- A text was appended whole under its status; or a write failed, which is status 5, and a front of the text was.
abbrev pub WritesText : (text : List ℕ) → (planned : ℕ) → (faults_before faults_after : ℕ) → (before after : Option (List ℕ)) → (status : ℕ) → Type 0
WritesText text planned faults_before faults_after before after status =
    ((status ≡ planned) × Appended before after text) ⊎ ((status ≡ 5) × FaultRose faults_before faults_after × AppendedFront before after text)

-- The text is what a check says of what these bytes are read as, and this is its status.
abbrev pub SaysVerdict : Form → List ℕ → Result LabInput BadInput → List ℕ → Type 0
SaysVerdict form bytes (Ok input) text = text ≡ accepted_in form input
SaysVerdict form bytes (Err bad) text = IsRefusal bytes bad text

abbrev pub verdict_status : Result LabInput BadInput → ℕ
verdict_status (Ok input) = 0
verdict_status (Err bad) = 2

-- What was read from the source was said: that it is an input, or its first fault with a hint.
pub record Checks (form : Form) (left_before left_after : Option (List ℕ)) (faults_before faults_after : ℕ) (before after : Option (List ℕ)) (status : ℕ)
    : Type 0 where
  pub answer : Result LabInput BadInput
  pub read : ReadsInput left_before left_after answer
  pub text : List ℕ
  pub says : SaysVerdict form read.bytes answer text
  pub wrote : WritesText text (verdict_status answer) faults_before faults_after before after status

-- the status of an audit
abbrev pub audit_status : AuditEnd → ℕ
audit_status audit_ends.NoJournal = 2
audit_status audit_ends.Yes = 0
audit_status audit_ends.No = 8

-- What was read from the source was audited, and the answer said.
pub record Audits (left_before left_after : Option (List ℕ)) (faults_before faults_after : ℕ) (before after : Option (List ℕ)) (status : ℕ) : Type 0 where
  pub text : List ℕ
  pub end : AuditEnd
  pub reads : ReadsText left_before left_after text end
  pub wrote : WritesText text (audit_status end) faults_before faults_after before after status

-- What was read from the source was imported, or its fault said.
pub record Imports (home : Option ℕ) (left_before left_after : Option (List ℕ)) (faults_before faults_after : ℕ) (before after : Option (List ℕ)) (status : ℕ)
    : Type 0 where
  pub text : List ℕ
  pub planned : ℕ
  pub reads : ReadsCapture home left_before left_after text planned
  pub wrote : WritesText text planned faults_before faults_after before after status

-- The report of a run was written under the status of its end: a text that says how the run ended and where packets go then.
pub record WritesReport (lab : Lab) (form : Form) (faults_before faults_after : ℕ) (before after : Option (List ℕ)) (status : ℕ) : Type 0 where
  pub text : List ℕ
  pub report : IsReportIn form lab text
  pub wrote : WritesText text (end_status lab.end) faults_before faults_after before after status

-- All bytes of a source were taken, are the input that was run, and were written with the journal of the run behind them.
pub record WritesJournal (left_before left_after : Option (List ℕ)) (lab : Lab)
    (faults_before faults_after : ℕ) (before after : Option (List ℕ)) (status : ℕ) : Type 0 where
  pub bytes : List ℕ
  pub took : Took left_before left_after bytes
  pub end : IsAtEnd left_after
  pub is : InputOf bytes lab.input
  pub wrote : WritesText (journal_text bytes lab.journal) (end_status lab.end) faults_before faults_after before after status

-- A capture of a run was written under the status of its end.
pub record WritesCapture (lab : Lab) (faults_before faults_after : ℕ) (before after : Option (List ℕ)) (status : ℕ) : Type 0 where
  pub octets : List ℕ
  pub capture : IsLabCapture lab octets
  pub wrote : WritesText octets (end_status lab.end) faults_before faults_after before after status

-- The view of a run that has this name was written under the status of its end.
pub record WritesView (lab : Lab) (name : ViewName) (faults_before faults_after : ℕ) (before after : Option (List ℕ)) (status : ℕ) : Type 0 where
  pub text : List ℕ
  pub shows : ShowsView lab name text
  pub wrote : WritesText text (end_status lab.end) faults_before faults_after before after status
