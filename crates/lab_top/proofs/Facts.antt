-- What holds of every end.
use Rattle.std.proofs.Common.{◌≡◌, ℕ, ◌<◌, Bool, true, false, ◌==◌, ◌||◌, List, inl, inr, refl, subst, sym, ◌∙◌, ap, arith}
use Rattle.std.specs.Prelude.{◌⊎◌, Option, Some, None, Result, Ok, Err, IsSome, IsSomeAnd, IfSome, OnSome}
use Rattle.std.proofs.lemmas.Bool.{false≢true}
use Rattle.graft_edge.specs.Outside.{FaultRose, Appended, AppendedFront}
use Rattle.lab_tables.specs.declared.input.LabInput.{LabInput}
use Rattle.lab_input.specs.declared.bad.BadInput.{BadInput}
use Rattle.lab_input.specs.Labs.{InputOf}
use Rattle.lab_words.specs.declared.job.Form.{Form}
use Rattle.lab_words.specs.declared.job.Job.{Job}
use Rattle.lab_words.specs.declared.job.Job.TheVariants as jobs
use Rattle.lab_words.specs.Asked.{Asks}
use Rattle.lab_words.specs.Hints.{refused_text}
use Rattle.lab_make.specs.Made.{made}
use Rattle.lab_report.specs.declared.lab.Lab.{Lab}
use Rattle.lab_report.specs.declared.lab.RunEnd.{RunEnd}
use Rattle.lab_report.specs.declared.lab.RunEnd.TheVariants.{Settled, Unsettled, StreamFull, JournalFull}
use Rattle.lab_run.specs.Runs.{RanLab}
use Rattle.expect_view.specs.Expect.{all_hold, test_status}
use Rattle.lab_top.specs.declared.views.ViewName.{ViewName}
use Rattle.lab_top.specs.Forms.{summary_in, test_in}
use Rattle.lab_top.specs.Views.{viewing}
use Rattle.lab_top.specs.Ends.{AreRefused, AskToCheck, AskToRun, AskForJournal, AskForCapture, AskToTest}
use Rattle.lab_top.specs.Ends.{AskToView, RunsSource, AskToSum, AskToDrill, AskForLab}
use Rattle.lab_audit.specs.declared.audited.AuditEnd.{AuditEnd}
use Rattle.lab_audit.specs.declared.audited.AuditEnd.TheVariants as audit_ends
use Rattle.lab_top.specs.Ends.{AskToAudit, AskToImport, AskToMake, AskForLine, Audits, Imports, ReadsInput, ReadsText, ReadsCapture, SaysImport, audit_status}
use Rattle.lab_top.specs.Ends.{TookInput, GaveBadInput, IsStatus, WritesText, WritesReport, WritesJournal, WritesCapture, WritesView, Checks, end_status}
use Rattle.lab_top.specs.Ends.{SaysVerdict, verdict_status, tested_status, HasFailed}
use Rattle.lab_top.specs.Cases.{Outside, RunsLab, plain_text, Gives, Refuses, Tells, job_status, Cause, tells, checks, audits, imports, refuses, misses, runs}
use Rattle.lab_top.specs.Cases.{Did, wrote, unread, Ended, refused, did, no_memory}
use Rattle.lab_top.proofs.Asking.{of_asked, plain_is_no_lab, plain_reads_none, views_run, took_of, view_status, view_shown, lab_asked}
use Rattle.lab_top.proofs.Asking.{reads_source, runs_lab, none_run, line_asked, make_asked, no_lab}

-- ---- texts and statuses

abbrev Wrote : List ℕ → ℕ → Outside → Outside → ℕ → Type 0
Wrote text planned o n status = WritesText text planned o.write_faults n.write_faults o.written n.written status

writes_as : (text told : List ℕ) (planned meant : ℕ) (o n : Outside) (status : ℕ) → text ≡ told → planned ≡ meant → Wrote text planned o n status
    → Wrote told meant o n status
writes_as text told planned meant o n status same also w =
    subst (λ t. Wrote t meant o n status) same (subst (λ k. Wrote text k o n status) also w)

-- the statuses under which a text of a run is written whole
abbrev OfRun : ℕ → Type 0
OfRun planned = (planned ≡ 0) ⊎ (planned ≡ 3) ⊎ (planned ≡ 7) ⊎ (planned ≡ 9)

end_of_run : (end : RunEnd) → OfRun (end_status end)
end_of_run Settled = inl refl
end_of_run (Unsettled step rounds pending) = inr (inl refl)
end_of_run (StreamFull peering length) = inr (inr (inl refl))
end_of_run (JournalFull events) = inr (inr (inl refl))

test_of_run : (end : RunEnd) (holds : Bool) → OfRun (test_status (end_status end) end holds)
test_of_run Settled true = inl refl
test_of_run Settled false = inr (inr (inr refl))
test_of_run (Unsettled step rounds pending) holds = inr (inl refl)
test_of_run (StreamFull peering length) holds = inr (inr (inl refl))
test_of_run (JournalFull events) holds = inr (inr (inl refl))

job_of_run : (job : Job) (end : Lab) → OfRun (job_status job end)
job_of_run (jobs.Test workers form) end = test_of_run end.end (all_hold end)
job_of_run _ end = end_of_run end.end

-- the statuses under which a job's text is written whole
abbrev Planned : ℕ → Type 0
Planned planned = (planned ≡ 2) ⊎ (planned ≡ 8) ⊎ OfRun planned

audit_planned : (planned : ℕ) (end : AuditEnd) → planned ≡ audit_status end → Planned planned
audit_planned planned audit_ends.NoJournal p = inl p
audit_planned planned audit_ends.Yes p = inr (inr (inl p))
audit_planned planned audit_ends.No p = inr (inl p)

-- a capture is imported under 0, and refused under 2
abbrev OfImport : ℕ → Type 0
OfImport planned = (planned ≡ 0) ⊎ (planned ≡ 2)

said_import : (home : Option ℕ) (octets text : List ℕ) (planned : ℕ) → SaysImport home octets text planned → OfImport planned
said_import home octets text planned (inl imported) = inl imported.1
said_import home octets text planned (inr fault) = inr fault.3

of_import : (home : Option ℕ) (left rest : Option (List ℕ)) (text : List ℕ) (planned : ℕ) → ReadsCapture home left rest text planned → OfImport planned
of_import home left rest text planned reads =
    elim reads.says [
      | inl whole ↦ said_import home reads.octets text planned whole.2
      | inr long ↦ inr long.2
    ]

import_planned : (planned : ℕ) → OfImport planned → Planned planned
import_planned planned (inl zero) = inr (inr (inl zero))
import_planned planned (inr two) = inl two

not_of_import : (other planned : ℕ) → 2 < other → OfImport planned → planned ≡ other → ⊥
not_of_import other planned more (inl zero) is = absurd (omega (arith, more, zero, is))
not_of_import other planned more (inr two) is = absurd (omega (arith, more, two, is))

planned_by : (job : Job) (left rest : Option (List ℕ)) (text : List ℕ) (planned : ℕ) (lab : Option Lab) → Cause job left rest text planned lab
    → Planned planned
planned_by job left rest text planned lab (tells t p l) = inr (inr (inl p))
planned_by job left rest text planned lab (checks form (Ok input) is read t p l) = inr (inr (inl p))
planned_by job left rest text planned lab (checks form (Err bad) is read t p l) = inl p
planned_by job left rest text planned lab (audits end is reads p l) = audit_planned planned end p
planned_by job left rest text planned lab (imports home is reads l) = import_planned planned (of_import home left rest text planned reads)
planned_by job left rest text planned lab (refuses run why p l) = inl p
planned_by job left rest text planned lab (misses input view workers name is read none t p l) = inl p
planned_by job left rest text planned lab (runs bytes end run gives is told ran p l) = inr (inr (subst OfRun (sym p) (job_of_run job end)))

status_by : (planned status : ℕ) → Planned planned → status ≡ planned → IsStatus status
status_by planned status (inl p) e = inr (inr (inl (e ∙ p)))
status_by planned status (inr (inl p)) e = inr (inr (inr (inr (inr (inr (inr (inr (inl (e ∙ p)))))))))
status_by planned status (inr (inr (inl p))) e = inl (e ∙ p)
status_by planned status (inr (inr (inr (inl p)))) e = inr (inr (inr (inl (e ∙ p))))
status_by planned status (inr (inr (inr (inr (inl p))))) e = inr (inr (inr (inr (inr (inr (inr (inl (e ∙ p))))))))
status_by planned status (inr (inr (inr (inr (inr p))))) e = inr (inr (inr (inr (inr (inr (inr (inr (inr (e ∙ p)))))))))

pub statuses : (words : List (List ℕ)) (o n : Outside) (status : ℕ) (lab : Option Lab) → Ended words o n status lab → IsStatus status
statuses words o n status lab (refused none (inl whole) l) = inr (inl whole.0)
statuses words o n status lab (refused none (inr front) l) = inr (inr (inr (inr (inr (inl front.0)))))
statuses words o n status lab (did job ask (wrote text planned cause (inl whole))) =
    status_by planned status (planned_by job _ _ text planned lab cause) whole.0
statuses words o n status lab (did job ask (wrote text planned cause (inr front))) = inr (inr (inr (inr (inr (inl front.0)))))
statuses words o n status lab (did job ask (unread reads four rose same l)) = inr (inr (inr (inr (inl four))))
statuses words o n status lab (no_memory six same l) = inr (inr (inr (inr (inr (inr (inl six))))))

-- ---- a status by itself

-- whether a text of a run is written whole under this status, and whether one of a job is
abbrev is_of_run : ℕ → Bool
is_of_run n = n == 0 || n == 3 || n == 7 || n == 9

abbrev is_planned : ℕ → Bool
is_planned n = n == 2 || n == 8 || is_of_run n

of_run_is : (f : ℕ → Bool) → f 0 ≡ true → f 3 ≡ true → f 7 ≡ true → f 9 ≡ true → (status : ℕ) → OfRun status → f status ≡ true
of_run_is f zero three seven nine status (inl e) = ap f e ∙ zero
of_run_is f zero three seven nine status (inr (inl e)) = ap f e ∙ three
of_run_is f zero three seven nine status (inr (inr (inl e))) = ap f e ∙ seven
of_run_is f zero three seven nine status (inr (inr (inr e))) = ap f e ∙ nine

run_status : (status : ℕ) → OfRun status → is_of_run status ≡ true
run_status status is = of_run_is is_of_run refl refl refl refl status is

planned_is : (planned : ℕ) → Planned planned → is_planned planned ≡ true
planned_is planned (inl p) = ap is_planned p
planned_is planned (inr (inl p)) = ap is_planned p
planned_is planned (inr (inr is)) = of_run_is is_planned refl refl refl refl planned is

-- no text of a job is written whole under this status
not_whole : (other : ℕ) (job : Job) (left rest : Option (List ℕ)) (text : List ℕ) (planned status : ℕ) (lab : Option Lab) → is_planned other ≡ false
    → Cause job left rest text planned lab → status ≡ planned → status ≡ other → ⊥
not_whole other job left rest text planned status lab fails cause is e =
    false≢true (sym fails ∙ ap is_planned (sym e ∙ is) ∙ planned_is planned (planned_by job left rest text planned lab cause))

-- ---- the words are refused

pub usage_told : (words : List (List ℕ)) (o n : Outside) (status : ℕ) (lab : Option Lab) → Ended words o n status lab → AreRefused words
    → (status ≡ 6) ⊎ Wrote (refused_text words) 1 o n status
usage_told words o n status lab (refused none w l) never = inr w
usage_told words o n status lab (did job ask d) never = absurd (never job ask)
usage_told words o n status lab (no_memory six same l) never = inl six

pub refused_words : (words : List (List ℕ)) (o n : Outside) (status : ℕ) (lab : Option Lab) → Ended words o n status lab → status ≡ 1 → AreRefused words
refused_words words o n status lab (refused none w l) one = none
refused_words words o n status lab (did job ask (wrote text planned cause (inl whole))) one =
    absurd (not_whole 1 job _ _ text planned status lab refl cause whole.0 one)
refused_words words o n status lab (did job ask (wrote text planned cause (inr front))) one = let five = front.0 in absurd (omega arith)
refused_words words o n status lab (did job ask (unread reads four rose same l)) one = absurd (omega arith)
refused_words words o n status lab (no_memory six same l) one = absurd (omega arith)

-- ---- a text without a run

some_is : (a b : List ℕ) → Some a ≡ Some b → a ≡ b
some_is a b e = cc

not_plain : (job other : Job) (told : List ℕ) → plain_text other ≡ None → plain_text job ≡ Some told → job ≡ other → ⊥
not_plain job other told none plain is =
    let both : None ≡ Some told = sym none ∙ subst (λ j. plain_text j ≡ Some told) is plain in let f : ⊥ = cc in f

plain_cause : (job : Job) (left rest : Option (List ℕ)) (text told : List ℕ) (planned : ℕ) (lab : Option Lab) → plain_text job ≡ Some told
    → Cause job left rest text planned lab → (text ≡ told) × (planned ≡ 0)
plain_cause job left rest text told planned lab plain (tells t p l) = (some_is text told (sym t ∙ plain), p)
plain_cause job left rest text told planned lab plain (checks form answer is read t p l) = absurd (not_plain job (jobs.Check form) told refl plain is)
plain_cause job left rest text told planned lab plain (audits end is reads p l) = absurd (not_plain job jobs.Audit told refl plain is)
plain_cause job left rest text told planned lab plain (imports home is reads l) = absurd (not_plain job (jobs.Import home) told refl plain is)
plain_cause job left rest text told planned lab plain (refuses run why p l) = absurd (plain_is_no_lab job told plain run)
plain_cause job left rest text told planned lab plain (misses input view workers name is read none t p l) =
    absurd (plain_is_no_lab job told plain (subst RunsLab (sym is) (views_run view workers)))
plain_cause job left rest text told planned lab plain (runs bytes end run gives is so ran p l) = absurd (plain_is_no_lab job told plain run)

plain_told : (job : Job) (o n : Outside) (told : List ℕ) (status : ℕ) (lab : Option Lab) → plain_text job ≡ Some told → Did job o n status lab
    → Wrote told 0 o n status
plain_told job o n told status lab plain (wrote text planned cause w) =
    let is = plain_cause job o.left n.left text told planned lab plain cause in writes_as text told planned 0 o n status is.0 is.1 w
plain_told job o n told status lab plain (unread reads four rose same l) = absurd (plain_reads_none job told plain reads)

pub made_told : (words : List (List ℕ)) (o n : Outside) (status : ℕ) (lab : Option Lab) → Ended words o n status lab → (seed : ℕ)
    → Asks words (jobs.Make seed) → (status ≡ 6) ⊎ Wrote (made seed) 0 o n status
made_told words o n status lab (refused none w l) seed make = absurd (none (jobs.Make seed) make)
made_told words o n status lab (did job ask d) seed make = inr (plain_told job o n (made seed) status lab (make_asked words seed job make ask) d)
made_told words o n status lab (no_memory six same l) seed make = inl six

no_line : (words : List (List ℕ)) (line : List ℕ) → AreRefused words → AskForLine words line → ⊥
no_line words line none (inl help) = none jobs.Help help.0
no_line words line none (inr version) = none jobs.Version version.0

pub line_told : (words : List (List ℕ)) (o n : Outside) (status : ℕ) (lab : Option Lab) → Ended words o n status lab → (line : List ℕ)
    → AskForLine words line → (status ≡ 6) ⊎ Wrote line 0 o n status
line_told words o n status lab (refused none w l) line is = absurd (no_line words line none is)
line_told words o n status lab (did job ask d) line is = inr (plain_told job o n line status lab (line_asked words line job is ask) d)
line_told words o n status lab (no_memory six same l) line is = inl six

-- ---- an input is checked

abbrev Verdict : Form → Option (List ℕ) → Option (List ℕ) → List ℕ → ℕ → Type 0
Verdict form left rest text planned =
    (answer : Result LabInput BadInput) × (read : ReadsInput left rest answer) × SaysVerdict form read.bytes answer text × (planned ≡ verdict_status answer)

none_told : (text : List ℕ) → None ≡ Some text → ⊥
none_told text e = let f : ⊥ = cc in f

-- one form is checked
same_form : (a b : Form) → jobs.Check a ≡ jobs.Check b → b ≡ a
same_form a b e = cc

check_no_audit : (form : Form) → jobs.Check form ≡ jobs.Audit → ⊥
check_no_audit form e = let f : ⊥ = cc in f

check_no_import : (form : Form) (home : Option ℕ) → jobs.Check form ≡ jobs.Import home → ⊥
check_no_import form home e = let f : ⊥ = cc in f

check_cause : (form : Form) (left rest : Option (List ℕ)) (text : List ℕ) (planned : ℕ) (lab : Option Lab)
    → Cause (jobs.Check form) left rest text planned lab → Verdict form left rest text planned
check_cause form left rest text planned lab (tells t p l) = absurd (none_told text t)
check_cause form left rest text planned lab (checks other answer is read t p l) =
    (answer, read, subst (λ f. SaysVerdict f read.bytes answer text) (same_form form other is) t, p)
check_cause form left rest text planned lab (audits end is reads p l) = absurd (check_no_audit form is)
check_cause form left rest text planned lab (imports home is reads l) = absurd (check_no_import form home is)
check_cause form left rest text planned lab (refuses run why p l) = absurd run
check_cause form left rest text planned lab (misses input view workers name is read none t p l) = absurd (subst RunsLab (sym is) (views_run view workers))
check_cause form left rest text planned lab (runs bytes end run gives is told ran p l) = absurd run

check_did : (form : Form) (o n : Outside) (status : ℕ) (lab : Option Lab) → Did (jobs.Check form) o n status lab
    → (status ≡ 4) ⊎ (status ≡ 6) ⊎ Checks form o.left n.left o.write_faults n.write_faults o.written n.written status
check_did form o n status lab (wrote text planned cause w) =
    let told = check_cause form o.left n.left text planned lab cause in
    inr (inr (record {
      answer = told.0;
      read = told.1;
      text = text;
      says = told.2;
      wrote = subst (λ k. Wrote text k o n status) told.3 w;
    }))
check_did form o n status lab (unread reads four rose same l) = inl four

pub checked_told : (words : List (List ℕ)) (o n : Outside) (status : ℕ) (lab : Option Lab) → Ended words o n status lab → (form : Form)
    → AskToCheck words form → (status ≡ 4) ⊎ (status ≡ 6) ⊎ Checks form o.left n.left o.write_faults n.write_faults o.written n.written status
checked_told words o n status lab (refused none w l) form check = absurd (none (jobs.Check form) check)
checked_told words o n status lab (did job ask d) form check =
    check_did form o n status lab (of_asked (λ j. Did j o n status lab) words job (jobs.Check form) ask check d)
checked_told words o n status lab (no_memory six same l) form check = inr (inl six)

-- ---- a journal is audited

audit_no_import : (home : Option ℕ) → jobs.Audit ≡ jobs.Import home → ⊥
audit_no_import home e = let f : ⊥ = cc in f

audit_cause : (left rest : Option (List ℕ)) (text : List ℕ) (planned : ℕ) (lab : Option Lab) → Cause jobs.Audit left rest text planned lab
    → (end : AuditEnd) × ReadsText left rest text end × (planned ≡ audit_status end)
audit_cause left rest text planned lab (tells t p l) = absurd (none_told text t)
audit_cause left rest text planned lab (checks form answer is read t p l) = absurd (check_no_audit form (sym is))
audit_cause left rest text planned lab (audits end is reads p l) = (end, reads, p)
audit_cause left rest text planned lab (imports home is reads l) = absurd (audit_no_import home is)
audit_cause left rest text planned lab (refuses run why p l) = absurd run
audit_cause left rest text planned lab (misses input view workers name is read none t p l) = absurd (subst RunsLab (sym is) (views_run view workers))
audit_cause left rest text planned lab (runs bytes end run gives is told ran p l) = absurd run

audit_did : (o n : Outside) (status : ℕ) (lab : Option Lab) → Did jobs.Audit o n status lab
    → (status ≡ 4) ⊎ (status ≡ 6) ⊎ Audits o.left n.left o.write_faults n.write_faults o.written n.written status
audit_did o n status lab (wrote text planned cause w) =
    let told = audit_cause o.left n.left text planned lab cause in
    inr (inr (record { text = text; end = told.0; reads = told.1; wrote = subst (λ k. Wrote text k o n status) told.2 w }))
audit_did o n status lab (unread reads four rose same l) = inl four

pub audited_told : (words : List (List ℕ)) (o n : Outside) (status : ℕ) (lab : Option Lab) → Ended words o n status lab → AskToAudit words
    → (status ≡ 4) ⊎ (status ≡ 6) ⊎ Audits o.left n.left o.write_faults n.write_faults o.written n.written status
audited_told words o n status lab (refused none w l) audit = absurd (none jobs.Audit audit)
audited_told words o n status lab (did job ask d) audit =
    audit_did o n status lab (of_asked (λ j. Did j o n status lab) words job jobs.Audit ask audit d)
audited_told words o n status lab (no_memory six same l) audit = inr (inl six)

-- ---- a capture is imported

-- the home side has one address
same_home : (a b : Option ℕ) → jobs.Import a ≡ jobs.Import b → b ≡ a
same_home a b e = cc

import_cause : (home : Option ℕ) (left rest : Option (List ℕ)) (text : List ℕ) (planned : ℕ) (lab : Option Lab)
    → Cause (jobs.Import home) left rest text planned lab → ReadsCapture home left rest text planned
import_cause home left rest text planned lab (tells t p l) = absurd (none_told text t)
import_cause home left rest text planned lab (checks form answer is read t p l) = absurd (check_no_import form home (sym is))
import_cause home left rest text planned lab (audits end is reads p l) = absurd (audit_no_import home (sym is))
import_cause home left rest text planned lab (imports other is reads l) =
    subst (λ h. ReadsCapture h left rest text planned) (same_home home other is) reads
import_cause home left rest text planned lab (refuses run why p l) = absurd run
import_cause home left rest text planned lab (misses input view workers name is read none t p l) = absurd (subst RunsLab (sym is) (views_run view workers))
import_cause home left rest text planned lab (runs bytes end run gives is told ran p l) = absurd run

import_did : (home : Option ℕ) (o n : Outside) (status : ℕ) (lab : Option Lab) → Did (jobs.Import home) o n status lab
    → (status ≡ 4) ⊎ (status ≡ 6) ⊎ Imports home o.left n.left o.write_faults n.write_faults o.written n.written status
import_did home o n status lab (wrote text planned cause w) =
    inr (inr (record { text = text; planned = planned; reads = import_cause home o.left n.left text planned lab cause; wrote = w }))
import_did home o n status lab (unread reads four rose same l) = inl four

pub imported_told : (words : List (List ℕ)) (o n : Outside) (status : ℕ) (lab : Option Lab) → Ended words o n status lab → (home : Option ℕ)
    → AskToImport words home → (status ≡ 4) ⊎ (status ≡ 6) ⊎ Imports home o.left n.left o.write_faults n.write_faults o.written n.written status
imported_told words o n status lab (refused none w l) home asks = absurd (none (jobs.Import home) asks)
imported_told words o n status lab (did job ask d) home asks =
    import_did home o n status lab (of_asked (λ j. Did j o n status lab) words job (jobs.Import home) ask asks d)
imported_told words o n status lab (no_memory six same l) home asks = inr (inl six)

-- ---- an input is refused

gave_bad : (words : List (List ℕ)) (left rest : Option (List ℕ)) (text : List ℕ) (job : Job) → Asks words job → Refuses job left rest text
    → GaveBadInput words left rest text
gave_bad words left rest text (jobs.Drill seed workers form) ask why = inr (inl (seed, (form, (workers, ask)), why))
gave_bad words left rest text _ ask why = inl why

not_of_run : (other planned : ℕ) (job : Job) (end : Lab) → is_of_run other ≡ false → planned ≡ job_status job end → planned ≡ other → ⊥
not_of_run other planned job end fails p is =
    false≢true (sym fails ∙ ap is_of_run (sym is ∙ p) ∙ run_status (job_status job end) (job_of_run job end))

-- an audit that is refused
no_journal : (words : List (List ℕ)) (left rest : Option (List ℕ)) (text : List ℕ) (planned : ℕ) (end : AuditEnd) → AskToAudit words
    → ReadsText left rest text end → planned ≡ audit_status end → planned ≡ 2 → GaveBadInput words left rest text
no_journal words left rest text planned audit_ends.NoJournal audit reads p two = inr (inr (inr (inl (audit, reads))))
no_journal words left rest text planned audit_ends.Yes audit reads p two = let zero : planned ≡ 0 = p in absurd (omega (arith, zero, two))
no_journal words left rest text planned audit_ends.No audit reads p two = let eight : planned ≡ 8 = p in absurd (omega (arith, eight, two))

bad_by : (words : List (List ℕ)) (job : Job) (left rest : Option (List ℕ)) (text : List ℕ) (planned : ℕ) (lab : Option Lab) → Asks words job
    → Cause job left rest text planned lab → planned ≡ 2 → GaveBadInput words left rest text
bad_by words job left rest text planned lab ask (tells t p l) two = absurd (omega arith)
bad_by words job left rest text planned lab ask (checks form (Ok input) is read t p l) two = absurd (omega (arith, p))
bad_by words job left rest text planned lab ask (checks form (Err bad) is read t p l) two = inl (record { answer = Err bad; read = read; why = t })
bad_by words job left rest text planned lab ask (audits end is reads p l) two =
    no_journal words left rest text planned end (subst (Asks words) is ask) reads p two
bad_by words job left rest text planned lab ask (imports home is reads l) two =
    inr (inr (inr (inr (home, subst (Asks words) is ask, subst (ReadsCapture home left rest text) two reads))))
bad_by words job left rest text planned lab ask (refuses run why p l) two = gave_bad words left rest text job ask why
bad_by words job left rest text planned lab ask (misses input view workers name is read none t p l) two =
    inr (inr (inl (record { input = input; view = view; name = name; read = read; asks = (workers, subst (Asks words) is ask); none = none; says = t })))
bad_by words job left rest text planned lab ask (runs bytes end run gives is told ran p l) two = absurd (not_of_run 2 planned job end refl p two)

pub bad_input : (words : List (List ℕ)) (o n : Outside) (status : ℕ) (lab : Option Lab) → Ended words o n status lab → status ≡ 2
    → (text : List ℕ) × GaveBadInput words o.left n.left text × Appended o.written n.written text
bad_input words o n status lab (refused none (inl whole) l) two = let one = whole.0 in absurd (omega arith)
bad_input words o n status lab (refused none (inr front) l) two = let five = front.0 in absurd (omega arith)
bad_input words o n status lab (did job ask (wrote text planned cause (inl whole))) two =
    (text, bad_by words job o.left n.left text planned lab ask cause (sym whole.0 ∙ two), whole.1)
bad_input words o n status lab (did job ask (wrote text planned cause (inr front))) two = let five = front.0 in absurd (omega arith)
bad_input words o n status lab (did job ask (unread reads four rose same l)) two = absurd (omega arith)
bad_input words o n status lab (no_memory six same l) two = absurd (omega arith)

none_or_some : (lab : Option Lab) (end : Lab) → lab ≡ None → lab ≡ Some end → ⊥
none_or_some lab end none some = absurd (cc)

-- without a run, a job that runs a laboratory has refused its input
two_of : (job : Job) (left rest : Option (List ℕ)) (text : List ℕ) (planned : ℕ) (lab : Option Lab) → RunsLab job → lab ≡ None
    → Cause job left rest text planned lab → planned ≡ 2
two_of job left rest text planned lab run none (tells t p l) = absurd (plain_is_no_lab job text t run)
two_of job left rest text planned lab run none (checks form answer is read t p l) = absurd (subst RunsLab is run)
two_of job left rest text planned lab run none (audits end is reads p l) = absurd (subst RunsLab is run)
two_of job left rest text planned lab run none (imports home is reads l) = absurd (subst RunsLab is run)
two_of job left rest text planned lab run none (refuses lab_run why p l) = p
two_of job left rest text planned lab run none (misses input view workers name is read unknown t p l) = p
two_of job left rest text planned lab run none (runs bytes end lab_run gives is told ran p l) = absurd (none_or_some lab end none l)

pub bad_unwritten : (words : List (List ℕ)) (o n : Outside) (status : ℕ) (lab : Option Lab) → Ended words o n status lab → AskForLab words
    → status ≡ 5 → lab ≡ None
    → (text : List ℕ) × GaveBadInput words o.left n.left text × AppendedFront o.written n.written text
bad_unwritten words o n status lab (refused never w l) run five none = absurd (none_run words never run)
bad_unwritten words o n status lab (did job ask (wrote text planned cause (inl whole))) run five none =
    absurd (not_whole 5 job _ _ text planned status lab refl cause whole.0 five)
bad_unwritten words o n status lab (did job ask (wrote text planned cause (inr front))) run five none =
    let two = two_of job o.left n.left text planned lab (runs_lab words job ask run) none cause in
    (text, bad_by words job o.left n.left text planned lab ask cause two, front.2)
bad_unwritten words o n status lab (did job ask (unread reads four rose same l)) run five none = absurd (omega arith)
bad_unwritten words o n status lab (no_memory six same l) run five none = absurd (omega arith)

-- ---- faults

pub read_failed : (words : List (List ℕ)) (o n : Outside) (status : ℕ) (lab : Option Lab) → Ended words o n status lab → status ≡ 4
    → FaultRose o.read_faults n.read_faults
read_failed words o n status lab (refused none (inl whole) l) four = let one = whole.0 in absurd (omega arith)
read_failed words o n status lab (refused none (inr front) l) four = let five = front.0 in absurd (omega arith)
read_failed words o n status lab (did job ask (wrote text planned cause (inl whole))) four =
    absurd (not_whole 4 job _ _ text planned status lab refl cause whole.0 four)
read_failed words o n status lab (did job ask (wrote text planned cause (inr front))) four = let five = front.0 in absurd (omega arith)
read_failed words o n status lab (did job ask (unread reads is rose same l)) four = rose
read_failed words o n status lab (no_memory six same l) four = absurd (omega arith)

pub write_failed : (words : List (List ℕ)) (o n : Outside) (status : ℕ) (lab : Option Lab) → Ended words o n status lab → status ≡ 5
    → FaultRose o.write_faults n.write_faults
write_failed words o n status lab (refused none (inl whole) l) five = let one = whole.0 in absurd (omega arith)
write_failed words o n status lab (refused none (inr front) l) five = front.1
write_failed words o n status lab (did job ask (wrote text planned cause (inl whole))) five =
    absurd (not_whole 5 job _ _ text planned status lab refl cause whole.0 five)
write_failed words o n status lab (did job ask (wrote text planned cause (inr front))) five = front.1
write_failed words o n status lab (did job ask (unread reads four rose same l)) five = absurd (omega arith)
write_failed words o n status lab (no_memory six same l) five = absurd (omega arith)

nothing_under : (job : Job) (left rest : Option (List ℕ)) (text : List ℕ) (planned status : ℕ) (lab : Option Lab) → Cause job left rest text planned lab
    → status ≡ planned → (status ≡ 4) ⊎ (status ≡ 6) → ⊥
nothing_under job left rest text planned status lab cause is (inl four) = not_whole 4 job left rest text planned status lab refl cause is four
nothing_under job left rest text planned status lab cause is (inr six) = not_whole 6 job left rest text planned status lab refl cause is six

not_four_or_six : (k status : ℕ) → (k ≡ 1) ⊎ (k ≡ 5) → status ≡ k → (status ≡ 4) ⊎ (status ≡ 6) → ⊥
not_four_or_six k status (inl one) is (inl four) = absurd (omega arith)
not_four_or_six k status (inl one) is (inr six) = absurd (omega arith)
not_four_or_six k status (inr five) is (inl four) = absurd (omega arith)
not_four_or_six k status (inr five) is (inr six) = absurd (omega arith)

pub nothing_written : (words : List (List ℕ)) (o n : Outside) (status : ℕ) (lab : Option Lab) → Ended words o n status lab
    → (status ≡ 4) ⊎ (status ≡ 6) → n.written ≡ o.written
nothing_written words o n status lab (refused none (inl whole) l) is = absurd (not_four_or_six 1 status (inl refl) whole.0 is)
nothing_written words o n status lab (refused none (inr front) l) is = absurd (not_four_or_six 5 status (inr refl) front.0 is)
nothing_written words o n status lab (did job ask (wrote text planned cause (inl whole))) is =
    absurd (nothing_under job _ _ text planned status lab cause whole.0 is)
nothing_written words o n status lab (did job ask (wrote text planned cause (inr front))) is = absurd (not_four_or_six 5 status (inr refl) front.0 is)
nothing_written words o n status lab (did job ask (unread reads four rose same l)) is = same
nothing_written words o n status lab (no_memory six same l) is = same

-- ---- a run

-- the statuses under which there is a run: those of its end, and that of a failed write
abbrev Under : ℕ → Type 0
Under status = (status ≡ 0) ⊎ (status ≡ 3) ⊎ (status ≡ 5) ⊎ (status ≡ 7) ⊎ (status ≡ 9)

-- a text that a job writes of a run, under its status
abbrev Said : Job → List ℕ → Lab → List ℕ → Outside → Outside → ℕ → Type 0
Said job bytes end text o n status = Tells job bytes end text × Wrote text (job_status job end) o n status

-- what is known of a run that came to its end
pub record Came (words : List (List ℕ)) (o n : Outside) (status : ℕ) (end : Lab) : Type 0 where
  pub job : Job
  pub ask : Asks words job
  pub run : RunsLab job
  pub bytes : List ℕ
  pub gives : Gives job o.left n.left bytes
  pub is : InputOf bytes end.input
  pub text : List ℕ
  pub said : Said job bytes end text o n status
  pub ran : RanLab end

whole_under : (status : ℕ) → OfRun status → Under status
whole_under status (inl e) = inl e
whole_under status (inr (inl e)) = inr (inl e)
whole_under status (inr (inr e)) = inr (inr (inr e))

under_by : (text : List ℕ) (planned : ℕ) (o n : Outside) (status : ℕ) → OfRun planned → Wrote text planned o n status → Under status
under_by text planned o n status of_run (inl whole) = whole_under status (subst OfRun (sym whole.0) of_run)
under_by text planned o n status of_run (inr front) = inr (inr (inl front.0))

came_by : (words : List (List ℕ)) (job : Job) (o n : Outside) (text : List ℕ) (planned status : ℕ) (lab : Option Lab) (end : Lab) → Asks words job
    → lab ≡ Some end → Cause job o.left n.left text planned lab → Wrote text planned o n status → Came words o n status end
came_by words job o n text planned status lab end ask some (tells t p l) w = absurd (none_or_some lab end l some)
came_by words job o n text planned status lab end ask some (checks form answer is read t p l) w = absurd (none_or_some lab end l some)
came_by words job o n text planned status lab end ask some (audits told is reads p l) w = absurd (none_or_some lab end l some)
came_by words job o n text planned status lab end ask some (imports home is reads l) w = absurd (none_or_some lab end l some)
came_by words job o n text planned status lab end ask some (refuses run why p l) w = absurd (none_or_some lab end l some)
came_by words job o n text planned status lab end ask some (misses input view workers name is read none t p l) w = absurd (none_or_some lab end l some)
came_by words job o n text planned status lab end ask some (runs bytes other run gives is told ran p l) w =
    let found : Some other ≡ Some end = sym l ∙ some in
    let same : other ≡ end = cc in
    let under : Wrote text (job_status job other) o n status = subst (λ k. Wrote text k o n status) p w in
    let came : Came words o n status other =
    record { job = job; ask = ask; run = run; bytes = bytes; gives = gives; is = is; text = text; said = (told, under); ran = ran } in
    subst (λ e. Came words o n status e) same came

came : (words : List (List ℕ)) (o n : Outside) (status : ℕ) (lab : Option Lab) (end : Lab) → lab ≡ Some end → Ended words o n status lab
    → Came words o n status end
came words o n status lab end some (refused none w l) = absurd (none_or_some lab end l some)
came words o n status lab end some (did job ask (wrote text planned cause w)) = came_by words job o n text planned status lab end ask some cause w
came words o n status lab end some (did job ask (unread reads four rose same l)) = absurd (none_or_some lab end l some)
came words o n status lab end some (no_memory six same l) = absurd (none_or_some lab end l some)

pub ran : (words : List (List ℕ)) (o n : Outside) (status : ℕ) (lab : Option Lab) → Ended words o n status lab → OnSome lab (AskForLab words × Under status)
ran words o n status None ended = tt
ran words o n status (Some end) ended =
    let c = came words o n status (Some end) end refl ended in
    (lab_asked words c.job c.ask c.run, under_by c.text (job_status c.job end) o n status (job_of_run c.job end) c.said.1)

pub headline : (words : List (List ℕ)) (o n : Outside) (status : ℕ) (lab : Option Lab) → Ended words o n status lab → IfSome lab RanLab
headline words o n status None ended = tt
headline words o n status (Some end) ended = (came words o n status (Some end) end refl ended).ran

pub no_run : (words : List (List ℕ)) (o n : Outside) (status : ℕ) (lab : Option Lab) → Ended words o n status lab
    → AreRefused words ⊎ AskToMake words ⊎ ((form : Form) × AskToCheck words form) ⊎ AskToAudit words ⊎ ((home : Option ℕ) × AskToImport words home)
    ⊎ ((line : List ℕ) × AskForLine words line) → lab ≡ None
no_run words o n status None ended other = refl
no_run words o n status (Some end) ended other =
    let c = came words o n status (Some end) end refl ended in absurd (no_lab words c.job c.ask other c.run)

-- ---- what was run

pub input_taken : (words : List (List ℕ)) (o n : Outside) (status : ℕ) (lab : Option Lab) → Ended words o n status lab
    → IfSome lab (λ end. RunsSource words → TookInput o.left n.left end.input)
input_taken words o n status None ended = tt
input_taken words o n status (Some end) ended = λ source.
    let c = came words o n status (Some end) end refl ended in
    let took = took_of c.job o.left n.left c.bytes (reads_source words c.job c.ask source) c.gives in
    record { bytes = c.bytes; took = took.took; end = took.end; is = c.is }

pub drilled : (words : List (List ℕ)) (o n : Outside) (status : ℕ) (lab : Option Lab) → Ended words o n status lab
    → IfSome lab (λ end. (seed : ℕ) → AskToDrill words seed → InputOf (made seed) end.input)
drilled words o n status None ended = tt
drilled words o n status (Some end) ended = λ seed drill.
    let c = came words o n status (Some end) end refl ended in
    let gives : c.bytes ≡ made seed = of_asked (λ j. Gives j o.left n.left c.bytes) words c.job (jobs.Drill seed drill.1.0 drill.0) c.ask drill.1.1 c.gives in
    subst (λ bytes. InputOf bytes end.input) gives c.is

-- ---- what was written

-- what was written by the job that words ask for
said_of : (words : List (List ℕ)) (o n : Outside) (status : ℕ) (end : Lab) (c : Came words o n status end) (asked : Job) → Asks words asked
    → Said asked c.bytes end c.text o n status
said_of words o n status end c asked ask = of_asked (λ job. Said job c.bytes end c.text o n status) words c.job asked c.ask ask c.said

pub reported : (words : List (List ℕ)) (o n : Outside) (status : ℕ) (lab : Option Lab) → Ended words o n status lab
    → IfSome lab (λ end. (form : Form) → AskToRun words form → WritesReport end form o.write_faults n.write_faults o.written n.written status)
reported words o n status None ended = tt
reported words o n status (Some end) ended = λ form run.
    let c = came words o n status (Some end) end refl ended in
    let said = said_of words o n status end c (jobs.Run run.0 form) run.1 in
    record { text = c.text; report = said.0; wrote = said.1 }

pub summed : (words : List (List ℕ)) (o n : Outside) (status : ℕ) (lab : Option Lab) → Ended words o n status lab
    → IfSome lab (λ end. (form : Form) → ((seed : ℕ) × AskToSum words seed form) → Wrote (summary_in form end) (end_status end.end) o n status)
summed words o n status None ended = tt
summed words o n status (Some end) ended = λ form drill.
    let c = came words o n status (Some end) end refl ended in
    let said = said_of words o n status end c (jobs.Drill drill.0 drill.1.0 form) drill.1.1 in
    subst (λ t. Wrote t (end_status end.end) o n status) said.0 said.1

pub journaled : (words : List (List ℕ)) (o n : Outside) (status : ℕ) (lab : Option Lab) → Ended words o n status lab
    → IfSome lab (λ end. AskForJournal words → WritesJournal o.left n.left end o.write_faults n.write_faults o.written n.written status)
journaled words o n status None ended = tt
journaled words o n status (Some end) ended = λ journal.
    let c = came words o n status (Some end) end refl ended in
    let took = of_asked (λ j. Gives j o.left n.left c.bytes) words c.job (jobs.Journal journal.0) c.ask journal.1 c.gives in
    let said = said_of words o n status end c (jobs.Journal journal.0) journal.1 in
    record { bytes = c.bytes; took = took.took; end = took.end; is = c.is; wrote = subst (λ t. Wrote t (end_status end.end) o n status) said.0 said.1 }

pub captured : (words : List (List ℕ)) (o n : Outside) (status : ℕ) (lab : Option Lab) → Ended words o n status lab
    → IfSome lab (λ end. AskForCapture words → WritesCapture end o.write_faults n.write_faults o.written n.written status)
captured words o n status None ended = tt
captured words o n status (Some end) ended = λ capture.
    let c = came words o n status (Some end) end refl ended in
    let said = said_of words o n status end c (jobs.Capture capture.0) capture.1 in
    record { octets = c.text; capture = said.0; wrote = said.1 }

pub tested : (words : List (List ℕ)) (o n : Outside) (status : ℕ) (lab : Option Lab) → Ended words o n status lab
    → IfSome lab (λ end. (form : Form) → AskToTest words form → Wrote (test_in form end) (tested_status end) o n status)
tested words o n status None ended = tt
tested words o n status (Some end) ended = λ form test.
    let c = came words o n status (Some end) end refl ended in
    let said = said_of words o n status end c (jobs.Test test.0 form) test.1 in
    subst (λ t. Wrote t (tested_status end) o n status) said.0 said.1

pub viewed : (words : List (List ℕ)) (o n : Outside) (status : ℕ) (lab : Option Lab) → Ended words o n status lab
    → IfSome lab (λ end. (name : ViewName) → AskToView words name → WritesView end name o.write_faults n.write_faults o.written n.written status)
viewed words o n status None ended = tt
viewed words o n status (Some end) ended = λ name view.
    let c = came words o n status (Some end) end refl ended in
    let said = said_of words o n status end c (viewing name view.0) view.1 in
    let under = subst (λ k. Wrote c.text k o n status) (view_status name view.0 end) said.1 in
    record { text = c.text; shows = view_shown name view.0 c.bytes end c.text said.0; wrote = under }

-- ---- a run that was asked for

some_by : (job : Job) (left rest : Option (List ℕ)) (text : List ℕ) (planned : ℕ) (lab : Option Lab) → RunsLab job → is_of_run planned ≡ true
    → Cause job left rest text planned lab → IsSome lab
some_by job left rest text planned lab run is (tells t p l) = absurd (plain_is_no_lab job text t run)
some_by job left rest text planned lab run is (checks form answer check read t p l) = absurd (subst RunsLab check run)
some_by job left rest text planned lab run is (audits end audit reads p l) = absurd (subst RunsLab audit run)
some_by job left rest text planned lab run is (imports home job_is reads l) = absurd (subst RunsLab job_is run)
some_by job left rest text planned lab run is (refuses lab_run why p l) = absurd (false≢true (sym (ap is_of_run p) ∙ is))
some_by job left rest text planned lab run is (misses input view workers name job_is read none t p l) = absurd (false≢true (sym (ap is_of_run p) ∙ is))
some_by job left rest text planned lab run is (runs bytes end lab_run gives input told ran p l) = subst (λ found. IsSome found) (sym l) refl

ended_under : (words : List (List ℕ)) (o n : Outside) (status : ℕ) (lab : Option Lab) → Ended words o n status lab → AskForLab words
    → is_of_run status ≡ true → IsSome lab
ended_under words o n status lab (refused none w l) run is = absurd (none_run words none run)
ended_under words o n status lab (did job ask (wrote text planned cause (inl whole))) run is =
    some_by job o.left n.left text planned lab (runs_lab words job ask run) (sym (ap is_of_run whole.0) ∙ is) cause
ended_under words o n status lab (did job ask (wrote text planned cause (inr front))) run is = absurd (false≢true (sym (ap is_of_run front.0) ∙ is))
ended_under words o n status lab (did job ask (unread reads four rose same l)) run is = absurd (false≢true (sym (ap is_of_run four) ∙ is))
ended_under words o n status lab (no_memory six same l) run is = absurd (false≢true (sym (ap is_of_run six) ∙ is))

pub run_ended : (words : List (List ℕ)) (o n : Outside) (status : ℕ) (lab : Option Lab) → Ended words o n status lab → AskForLab words
    → OfRun status → IsSome lab
run_ended words o n status lab ended run is = ended_under words o n status lab ended run (run_status status is)

-- ---- an expectation that doesn't hold

end_not_nine : (end : RunEnd) → end_status end ≡ 9 → ⊥
end_not_nine Settled nine = let bad : 0 ≡ 9 = nine in absurd (omega (arith, bad))
end_not_nine (Unsettled step rounds pending) nine = let bad : 3 ≡ 9 = nine in absurd (omega (arith, bad))
end_not_nine (StreamFull peering length) nine = let bad : 7 ≡ 9 = nine in absurd (omega (arith, bad))
end_not_nine (JournalFull events) nine = let bad : 7 ≡ 9 = nine in absurd (omega (arith, bad))

nine_of_test : (end : RunEnd) (holds : Bool) → test_status (end_status end) end holds ≡ 9 → (end ≡ Settled) × (holds ≡ false)
nine_of_test Settled true nine = absurd (end_not_nine Settled nine)
nine_of_test Settled false nine = (refl, refl)
nine_of_test (Unsettled step rounds pending) holds nine = absurd (end_not_nine (Unsettled step rounds pending) nine)
nine_of_test (StreamFull peering length) holds nine = absurd (end_not_nine (StreamFull peering length) nine)
nine_of_test (JournalFull events) holds nine = absurd (end_not_nine (JournalFull events) nine)

-- 9 is the status of a test
failed_of : (words : List (List ℕ)) (job : Job) (end : Lab) → Asks words job → job_status job end ≡ 9 → ((form : Form) × AskToTest words form) × HasFailed end
failed_of words (jobs.Test workers form) end ask nine = ((form, (workers, ask)), nine_of_test end.end (all_hold end) nine)
failed_of words _ end ask nine = absurd (end_not_nine end.end nine)

failed_by : (words : List (List ℕ)) (job : Job) (left rest : Option (List ℕ)) (text : List ℕ) (planned : ℕ) (lab : Option Lab) → Asks words job
    → Cause job left rest text planned lab → planned ≡ 9 → ((form : Form) × AskToTest words form) × IsSomeAnd lab HasFailed
failed_by words job left rest text planned lab ask (tells t p l) nine = absurd (omega (arith, p, nine))
failed_by words job left rest text planned lab ask (checks form (Ok input) is read t p l) nine =
    let zero : planned ≡ 0 = p in absurd (omega (arith, zero, nine))
failed_by words job left rest text planned lab ask (checks form (Err bad) is read t p l) nine = let two : planned ≡ 2 = p in absurd (omega (arith, two, nine))
failed_by words job left rest text planned lab ask (audits audit_ends.NoJournal is reads p l) nine =
    let two : planned ≡ 2 = p in absurd (omega (arith, two, nine))
failed_by words job left rest text planned lab ask (audits audit_ends.Yes is reads p l) nine =
    let zero : planned ≡ 0 = p in absurd (omega (arith, zero, nine))
failed_by words job left rest text planned lab ask (audits audit_ends.No is reads p l) nine =
    let eight : planned ≡ 8 = p in absurd (omega (arith, eight, nine))
failed_by words job left rest text planned lab ask (imports home is reads l) nine =
    absurd (not_of_import 9 planned (omega arith) (of_import home left rest text planned reads) nine)
failed_by words job left rest text planned lab ask (refuses run why p l) nine = absurd (omega (arith, p, nine))
failed_by words job left rest text planned lab ask (misses input view workers name is read none t p l) nine = absurd (omega (arith, p, nine))
failed_by words job left rest text planned lab ask (runs bytes end run gives is told ran p l) nine =
    let failed = failed_of words job end ask (sym p ∙ nine) in (failed.0, subst (λ found. IsSomeAnd found HasFailed) (sym l) failed.1)

pub failed : (words : List (List ℕ)) (o n : Outside) (status : ℕ) (lab : Option Lab) → Ended words o n status lab → status ≡ 9
    → ((form : Form) × AskToTest words form) × IsSomeAnd lab HasFailed
failed words o n status lab (refused none (inl whole) l) nine = let one = whole.0 in absurd (omega arith)
failed words o n status lab (refused none (inr front) l) nine = let five = front.0 in absurd (omega arith)
failed words o n status lab (did job ask (wrote text planned cause (inl whole))) nine =
    failed_by words job o.left n.left text planned lab ask cause (sym whole.0 ∙ nine)
failed words o n status lab (did job ask (wrote text planned cause (inr front))) nine = let five = front.0 in absurd (omega arith)
failed words o n status lab (did job ask (unread reads four rose same l)) nine = absurd (omega arith)
failed words o n status lab (no_memory six same l) nine = absurd (omega arith)

-- ---- a journal that no run has

-- 8 is the status of an audit
denied_by : (words : List (List ℕ)) (job : Job) (left rest : Option (List ℕ)) (text : List ℕ) (planned : ℕ) (lab : Option Lab) → Asks words job
    → Cause job left rest text planned lab → planned ≡ 8 → AskToAudit words
denied_by words job left rest text planned lab ask (tells t p l) eight = absurd (omega (arith, p, eight))
denied_by words job left rest text planned lab ask (checks form (Ok input) is read t p l) eight =
    let zero : planned ≡ 0 = p in absurd (omega (arith, zero, eight))
denied_by words job left rest text planned lab ask (checks form (Err bad) is read t p l) eight =
    let two : planned ≡ 2 = p in absurd (omega (arith, two, eight))
denied_by words job left rest text planned lab ask (audits end is reads p l) eight = subst (Asks words) is ask
denied_by words job left rest text planned lab ask (imports home is reads l) eight =
    absurd (not_of_import 8 planned (omega arith) (of_import home left rest text planned reads) eight)
denied_by words job left rest text planned lab ask (refuses run why p l) eight = absurd (omega (arith, p, eight))
denied_by words job left rest text planned lab ask (misses input view workers name is read none t p l) eight = absurd (omega (arith, p, eight))
denied_by words job left rest text planned lab ask (runs bytes end run gives is told ran p l) eight =
    absurd (not_of_run 8 planned job end refl p eight)

pub denied : (words : List (List ℕ)) (o n : Outside) (status : ℕ) (lab : Option Lab) → Ended words o n status lab → status ≡ 8 → AskToAudit words
denied words o n status lab (refused none (inl whole) l) eight = let one = whole.0 in absurd (omega arith)
denied words o n status lab (refused none (inr front) l) eight = let five = front.0 in absurd (omega arith)
denied words o n status lab (did job ask (wrote text planned cause (inl whole))) eight =
    denied_by words job o.left n.left text planned lab ask cause (sym whole.0 ∙ eight)
denied words o n status lab (did job ask (wrote text planned cause (inr front))) eight = let five = front.0 in absurd (omega arith)
denied words o n status lab (did job ask (unread reads four rose same l)) eight = absurd (omega arith)
denied words o n status lab (no_memory six same l) eight = absurd (omega arith)
