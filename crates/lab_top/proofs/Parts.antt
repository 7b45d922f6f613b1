-- How a job ends, of what its parts give.
use Rattle.std.proofs.Common.{◌≡◌, ℕ, ◌<◌, ◌≤◌, true, false, List, ◌++◌, length, inl, inr, refl, sym, ap, ◌∙◌, subst, arith}
use Rattle.std.specs.Prelude.{◌⊎◌, nat_lt, Option, Some, None, Result, Ok, Err, IfOk}
use Rattle.std.proofs.lemmas.Bool.Decides.{nat_tests}
use Rattle.graft_edge.specs.Outside.{FaultRose, Took, TookSome, IsAtEnd}
use Rattle.graft_edge.specs.declared.memory.NoMemory.{NoMemory}
use Rattle.lab_tables.specs.declared.input.LabInput.{LabInput}
use Rattle.lab_input.specs.declared.bad.BadInput.{BadInput}
use Rattle.lab_input.specs.Labs.{input_of, InputOf, too_long}
use Rattle.lab_words.specs.declared.job.Form.{Form}
use Rattle.lab_words.specs.declared.job.Job.{Job}
use Rattle.lab_words.specs.declared.job.Job.TheVariants as jobs
use Rattle.lab_words.specs.Asked.{Asks}
use Rattle.lab_words.specs.Hints.{refused_text}
use Rattle.lab_make.specs.Made.{made}
use Rattle.lab_hints.specs.Hints.{hint_line, long_words, IsHint}
use Rattle.lab_hints.proofs.Hinted.{hint_long}
use Rattle.lab_report.specs.BadText.{bad_line}
use Rattle.lab_report.specs.declared.lab.Lab.{Lab}
use Rattle.lab_top.specs.Built.{is_built}
use Rattle.lab_top.specs.declared.views.ViewName.{ViewName}
use Rattle.lab_top.specs.Forms.{accepted_in}
use Rattle.lab_top.specs.Views.{view_named, viewing}
use Rattle.lab_audit.specs.Told.{IsRefusal, TellsOf, long_text, most_text}
use Rattle.lab_audit.specs.declared.audited.AuditEnd.TheVariants as audit_ends
use Rattle.lab_audit.specs.declared.audited.Told.{Told}
use Rattle.lab_import.specs.Captures.{fault_line, IsFault, IsImported, most_capture}
use Rattle.lab_import.specs.declared.capture.CaptureFault.{CaptureFault}
use Rattle.lab_top.specs.Ends.{AreRefused, ReadsInput, ReadsText, ReadsCapture, SaysImport, audit_status, SaysWhy, TookBadInput, WritesText}
use Rattle.lab_top.specs.Ends.{long_capture, unknown_text, not_built_text}
use Rattle.lab_top.specs.declared.finish.Finish.{Finish}
use Rattle.lab_top.specs.declared.finish.InputStop.{InputStop}
use Rattle.lab_top.specs.declared.finish.InputStop.TheVariants as stops
use Rattle.lab_top.specs.Cases.{Outside, TookWhole, RefusesInput, GivesNoInput, stop_with, ReadsOrStops, AnswersOrStops, WritesOr, FailsUnread, FindsNone}
use Rattle.lab_top.specs.Cases.{BuiltOr, EndsAudit, EndsRun, EndsUnbuilt, StopsFor}
use Rattle.lab_top.specs.Cases.{ReadsSource, RunsLab, plain_text, Gives, Tells, job_status, Cause, tells, checks, audits, imports, refuses, misses, runs}
use Rattle.lab_top.specs.Cases.{Did, wrote, unread, DidOr, Ended, refused, did, EndsOr}
use Rattle.lab_top.proofs.Asking.{refuses_of, gives_of}

-- ---- bytes

long_is_refused : (bytes : List ℕ) → 4194304 < length bytes → input_of bytes ≡ Err too_long
unfolding input_of
long_is_refused bytes long = let tested : nat_lt 4194304 (length bytes) ≡ true = grind (arith, nat_tests) in rw tested refl

-- more bytes than an input has
pub too_long_stops : (before after : Option (List ℕ)) (faults_before faults_after : ℕ) (text : Result (List ℕ) NoMemory) (stop : InputStop)
    → TookSome before after (λ n. 4194304 < n) → IfOk text (λ t. t ≡ bad_line too_long ++ hint_line long_words) → stop ≡ stop_with text
    → GivesNoInput before after faults_before faults_after stop
too_long_stops before after faults_before faults_after (Err e) stop took is same =
    subst (λ s. GivesNoInput before after faults_before faults_after s) (sym same) tt
too_long_stops before after faults_before faults_after (Ok text) stop took is same =
    let hint : IsHint took.0 too_long (hint_line long_words) = hint_long took.0 too_long (hint_line long_words) took.1 refl in
    let bad : RefusesInput before after text =
    (too_long, record { bytes = took.0; took = took.2; enough = inr (took.1, refl); is = long_is_refused took.0 took.1 }, (hint_line long_words, hint, is)) in
    subst (λ s. GivesNoInput before after faults_before faults_after s) (sym same) bad

pub reads_of : (before after : Option (List ℕ)) (bytes : List ℕ) (answer : Result LabInput BadInput) → TookWhole before after bytes
    → input_of bytes ≡ answer → ReadsInput before after answer
reads_of before after bytes answer took is = record { bytes = bytes; took = took.took; enough = inl took.end; is = is }

-- bytes that are refused
pub refused_stops : (bytes : List ℕ) (bad : BadInput) (text : Result (List ℕ) NoMemory) (stop : InputStop) → input_of bytes ≡ Err bad
    → IfOk text (IsRefusal bytes bad) → stop ≡ stop_with text → AnswersOrStops bytes (Err stop)
refused_stops bytes bad (Err e) stop is refusal same = subst (λ s. AnswersOrStops bytes (Err s)) (sym same) tt
refused_stops bytes bad (Ok text) stop is refusal same = subst (λ s. AnswersOrStops bytes (Err s)) (sym same) (bad, is, refusal)

pub stops_of : (before after : Option (List ℕ)) (faults_before faults_after : ℕ) (bytes : List ℕ) (stop : InputStop) → TookWhole before after bytes
    → AnswersOrStops bytes (Err stop)
    → GivesNoInput before after faults_before faults_after stop
stops_of before after faults_before faults_after bytes (stops.Bad text) took is =
    (is.0, record { bytes = bytes; took = took.took; enough = inl took.end; is = is.1 }, is.2)
stops_of before after faults_before faults_after bytes stops.Failed took is = absurd is
stops_of before after faults_before faults_after bytes stops.NoMemory took is = tt

pub source_read : (before after : Option (List ℕ)) (faults_before faults_after : ℕ) (bytes : List ℕ) (result : Result LabInput InputStop)
    → TookWhole before after bytes → AnswersOrStops bytes result → ReadsOrStops before after faults_before faults_after result
source_read before after faults_before faults_after bytes (Ok input) took is = reads_of before after bytes (Ok input) took is
source_read before after faults_before faults_after bytes (Err stop) took is = stops_of before after faults_before faults_after bytes stop took is

no_input : (bad : BadInput) (input : LabInput) → Err bad ≡ Ok input → ⊥
no_input bad input e = let r : Result LabInput BadInput = Err bad in let same : r ≡ Ok input = e in absurd (cc)

-- what is read as an input was taken whole
whole_by : (before after : Option (List ℕ)) (bytes : List ℕ) (input : LabInput) → Took before after bytes
    → IsAtEnd after ⊎ ((4194304 < length bytes) × (Ok input ≡ Err too_long)) → TookWhole before after bytes
whole_by before after bytes input took (inl end) = record { took = took; end = end }
whole_by before after bytes input took (inr long) = absurd (no_input too_long input (sym long.1))

whole : (before after : Option (List ℕ)) (input : LabInput) (read : ReadsInput before after (Ok input)) → TookWhole before after read.bytes
whole before after input read = whole_by before after read.bytes input read.took read.enough

-- ---- a source without an input

-- the cause of a text that says what is bad of a source
abbrev pub BadCause : Job → (before after : Option (List ℕ)) → Type 0
BadCause job before after = (text : List ℕ) → RefusesInput before after text → (lab : Option Lab) → lab ≡ None → Cause job before after text 2 lab

pub bad_check : (form : Form) (before after : Option (List ℕ)) → BadCause (jobs.Check form) before after
bad_check form before after text bad lab none = checks form (Err bad.0) refl bad.1 bad.2 refl none

pub bad_run : (job : Job) (before after : Option (List ℕ)) → RunsLab job → ReadsSource job → BadCause job before after
bad_run job before after lab reads text bad end none =
    let took : TookBadInput before after text = record { answer = Err bad.0; read = bad.1; why = bad.2 } in
    refuses lab (refuses_of job before after text reads took) refl none

written_ends : (job : Job) (o n : Outside) (text : List ℕ) (planned : ℕ) (result : Result Finish NoMemory)
    → ((lab : Option Lab) → lab ≡ None → Cause job o.left n.left text planned lab)
    → WritesOr text planned o.write_faults n.write_faults o.written n.written result → DidOr job o n result
written_ends job o n text planned (Ok finish) cause w = wrote text planned (cause finish.lab w.0) w.1
written_ends job o n text planned (Err e) cause w = w

failed_ends : (job : Job) (o n : Outside) (result : Result Finish NoMemory) → ReadsSource job → FaultRose o.read_faults n.read_faults
    → FailsUnread o.written n.written result → DidOr job o n result
failed_ends job o n (Ok finish) reads rose is = unread reads is.1 rose is.2 is.0
failed_ends job o n (Err e) reads rose is = absurd is

none_ends : (job : Job) (o n : Outside) (result : Result Finish NoMemory) → FindsNone o.written n.written result → DidOr job o n result
none_ends job o n (Ok finish) is = absurd is
none_ends job o n (Err e) is = is

pub stopped_ends : (job : Job) (o n : Outside) (stop : InputStop) (result : Result Finish NoMemory) → ReadsSource job → BadCause job o.left n.left
    → GivesNoInput o.left n.left o.read_faults n.read_faults stop
    → StopsFor stop o.write_faults n.write_faults o.written n.written result → DidOr job o n result
stopped_ends job o n (stops.Bad text) result reads cause bad is = written_ends job o n text 2 result (cause text bad) is
stopped_ends job o n stops.Failed result reads cause rose is = failed_ends job o n result reads rose is
stopped_ends job o n stops.NoMemory result reads cause read is = none_ends job o n result is

-- ---- texts without a run

pub plain_did : (job : Job) (o n : Outside) (text told : List ℕ) (status : ℕ) (lab : Option Lab) → plain_text job ≡ Some told → text ≡ told → lab ≡ None
    → WritesText text 0 o.write_faults n.write_faults o.written n.written status → Did job o n status lab
plain_did job o n text told status lab plain same none w = wrote text 0 (tells (plain ∙ ap Some (sym same)) refl none) w

pub checked_ends : (form : Form) (o n : Outside) (input : LabInput) (text : List ℕ) (status : ℕ) (lab : Option Lab) → ReadsInput o.left n.left (Ok input)
    → text ≡ accepted_in form input → lab ≡ None → WritesText text 0 o.write_faults n.write_faults o.written n.written status
    → Did (jobs.Check form) o n status lab
checked_ends form o n input text status lab read is none w = wrote text 0 (checks form (Ok input) refl read is refl none) w

-- a text that was audited
audited_ends : (o n : Outside) (told : Told) (finish : Finish) → ReadsText o.left n.left told.text told.end
    → EndsAudit told o.write_faults n.write_faults o.written n.written finish → Did jobs.Audit o n finish.status finish.lab
audited_ends o n told finish reads end = wrote told.text (audit_status told.end) (audits told.end refl reads refl end.0) end.1

pub whole_audited : (o n : Outside) (text : List ℕ) (told : Told) (finish : Finish) → Took o.left n.left text → length text ≤ most_text
    → IsAtEnd n.left → TellsOf text told.text told.end
    → EndsAudit told o.write_faults n.write_faults o.written n.written finish → Did jobs.Audit o n finish.status finish.lab
whole_audited o n text told finish took few end tells_of =
    audited_ends o n told finish (record { bytes = text; took = took; says = inl (end, few, tells_of) })

pub long_audited : (o n : Outside) (told : Told) (finish : Finish) → TookSome o.left n.left (λ n. most_text < n)
    → (told.text ≡ long_text) × (told.end ≡ audit_ends.NoJournal)
    → EndsAudit told o.write_faults n.write_faults o.written n.written finish → Did jobs.Audit o n finish.status finish.lab
long_audited o n told finish some is = audited_ends o n told finish (record { bytes = some.0; took = some.2; says = inr (some.1, is.0, is.1) })

-- a capture that was imported, or its fault
whole_read : (home : Option ℕ) (before after : Option (List ℕ)) (octets text : List ℕ) (planned : ℕ) → Took before after octets
    → length octets ≤ most_capture → IsAtEnd after → SaysImport home octets text planned → ReadsCapture home before after text planned
whole_read home before after octets text planned took few end says = record { octets = octets; took = took; says = inl (end, few, says) }

pub imported_ends : (home : Option ℕ) (o n : Outside) (octets text : List ℕ) (status : ℕ) (lab : Option Lab) → Took o.left n.left octets
    → length octets ≤ most_capture → IsAtEnd n.left → IsImported home octets text → lab ≡ None
    → WritesText text 0 o.write_faults n.write_faults o.written n.written status → Did (jobs.Import home) o n status lab
imported_ends home o n octets text status lab took few end is none w =
    wrote text 0 (imports home refl (whole_read home o.left n.left octets text 0 took few end (inl (is, refl))) none) w

pub fault_ends : (home : Option ℕ) (o n : Outside) (octets : List ℕ) (fault : CaptureFault) (result : Result Finish NoMemory) → Took o.left n.left octets
    → length octets ≤ most_capture → IsAtEnd n.left → IsFault home octets fault
    → WritesOr (fault_line fault) 2 o.write_faults n.write_faults o.written n.written result → DidOr (jobs.Import home) o n result
fault_ends home o n octets fault result took few end is w =
    let reads = whole_read home o.left n.left octets (fault_line fault) 2 took few end (inr (fault, is, refl, refl)) in
    written_ends (jobs.Import home) o n (fault_line fault) 2 result (λ lab none. imports home refl reads none) w

pub long_imported : (home : Option ℕ) (o n : Outside) (result : Result Finish NoMemory) → TookSome o.left n.left (λ n. most_capture < n)
    → WritesOr long_capture 2 o.write_faults n.write_faults o.written n.written result → DidOr (jobs.Import home) o n result
long_imported home o n result some w =
    let reads : ReadsCapture home o.left n.left long_capture 2 = record { octets = some.0; took = some.2; says = inr (some.1, refl, refl) } in
    written_ends (jobs.Import home) o n long_capture 2 result (λ lab none. imports home refl reads none) w

-- an input that hasn't what a view names
pub unknown_ends : (view : ViewName) (workers : ℕ) (o n : Outside) (input : LabInput) (name text : List ℕ) (status : ℕ) (lab : Option Lab)
    → ReadsInput o.left n.left (Ok input) → view_named input view ≡ Err name → text ≡ unknown_text input name → lab ≡ None
    → WritesText text 2 o.write_faults n.write_faults o.written n.written status → Did (viewing view workers) o n status lab
unknown_ends view workers o n input name text status lab read none told no_lab w =
    wrote text 2 (misses input view workers name refl read none told refl no_lab) w

-- ---- runs

pub unbuilt_ends : (job : Job) (o n : Outside) (input : LabInput) (finish : Finish) → RunsLab job → ReadsSource job → ReadsInput o.left n.left (Ok input)
    → is_built input ≡ false → EndsUnbuilt o.write_faults n.write_faults o.written n.written finish → Did job o n finish.status finish.lab
unbuilt_ends job o n input finish lab reads read built end =
    let took : TookBadInput o.left n.left not_built_text = record { answer = Ok input; read = read; why = (built, refl) } in
    wrote not_built_text 2 (refuses lab (refuses_of job o.left n.left not_built_text reads took) refl end.0) end.1

pub run_ends : (job : Job) (o n : Outside) (bytes : List ℕ) (input : LabInput) (lab : Lab) (text : List ℕ) (planned : ℕ) (finish : Finish) → RunsLab job
    → Gives job o.left n.left bytes → InputOf bytes input → BuiltOr input (Ok (Some lab)) → Tells job bytes lab text → planned ≡ job_status job lab
    → EndsRun text planned lab o.write_faults n.write_faults o.written n.written finish → Did job o n finish.status finish.lab
run_ends job o n bytes input lab text planned finish runs_lab gives is built told under end =
    let its : InputOf bytes lab.input = rw built.0 is in
    wrote text planned (runs bytes lab runs_lab gives its told built.1 under end.0) end.1

-- a run of an input that was read
pub read_ends : (job : Job) (o n : Outside) (input : LabInput) (lab : Lab) (text : List ℕ) (planned : ℕ) (finish : Finish) → RunsLab job
    → ReadsSource job → ReadsInput o.left n.left (Ok input) → BuiltOr input (Ok (Some lab)) → ((bytes : List ℕ) → Tells job bytes lab text)
    → planned ≡ job_status job lab → EndsRun text planned lab o.write_faults n.write_faults o.written n.written finish
    → Did job o n finish.status finish.lab
read_ends job o n input lab text planned finish runs_lab reads read built told under end =
    let gives = gives_of job o.left n.left read.bytes reads (whole o.left n.left input read) in
    run_ends job o n read.bytes input lab text planned finish runs_lab gives read.is built (told read.bytes) under end

-- ---- runs of the laboratory of a seed

-- why it isn't run
made_why : (seed : ℕ) (bytes text : List ℕ) (answer : Result LabInput BadInput) → bytes ≡ made seed → input_of bytes ≡ answer → SaysWhy bytes answer text
    → SaysWhy (made seed) (input_of (made seed)) text
made_why seed bytes text answer same is why =
    subst (λ b. SaysWhy b (input_of b) text) same (subst (λ a. SaysWhy bytes a text) (sym is) why)

pub drill_unbuilt : (o n : Outside) (seed workers : ℕ) (form : Form) (bytes : List ℕ) (input : LabInput) (finish : Finish) → bytes ≡ made seed
    → input_of bytes ≡ Ok input → is_built input ≡ false → EndsUnbuilt o.write_faults n.write_faults o.written n.written finish
    → Did (jobs.Drill seed workers form) o n finish.status finish.lab
drill_unbuilt o n seed workers form bytes input finish same is built end =
    wrote not_built_text 2 (refuses tt (made_why seed bytes not_built_text (Ok input) same is (built, refl)) refl end.0) end.1

pub drill_stopped : (o n : Outside) (seed workers : ℕ) (form : Form) (bytes : List ℕ) (stop : InputStop) (result : Result Finish NoMemory) → bytes ≡ made seed
    → AnswersOrStops bytes (Err stop) → StopsFor stop o.write_faults n.write_faults o.written n.written result
    → DidOr (jobs.Drill seed workers form) o n result
drill_stopped o n seed workers form bytes (stops.Bad text) result same is w =
    let why = made_why seed bytes text (Err is.0) same is.1 is.2 in
    written_ends (jobs.Drill seed workers form) o n text 2 result (λ lab none. refuses tt why refl none) w
drill_stopped o n seed workers form bytes stops.Failed result same is w = absurd is
drill_stopped o n seed workers form bytes stops.NoMemory result same is w = none_ends (jobs.Drill seed workers form) o n result w

-- ---- the words

pub did_ends : (words : List (List ℕ)) (job : Job) (o n : Outside) (result : Result Finish NoMemory) → Asks words job → DidOr job o n result
    → EndsOr words o n result
did_ends words job o n (Ok finish) ask is = did job ask is
did_ends words job o n (Err e) ask is = is

pub refused_ends : (words : List (List ℕ)) (o n : Outside) (text : List ℕ) (status : ℕ) (lab : Option Lab) → AreRefused words → text ≡ refused_text words
    → WritesText text 1 o.write_faults n.write_faults o.written n.written status → lab ≡ None → Ended words o n status lab
refused_ends words o n text status lab none same w no_lab =
    refused none (subst (λ t. WritesText t 1 o.write_faults n.write_faults o.written n.written status) same w) no_lab
