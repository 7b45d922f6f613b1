-- An audit of what `journal` writes says that a run has this journal.
use Rattle.std.proofs.Common.{◌≡◌, ℕ, List, refl, sym, ◌∙◌, ap, subst}
use Rattle.std.specs.Prelude.{Result, Ok, Err}
use Rattle.ring_net.specs.declared.entry.JournalEntry.{JournalEntry}
use Rattle.journal_form.specs.Journals.{journal_lines, journal_text}
use Rattle.journal_form.specs.Reading.{AreEntries, AreLinesOf, Divides, IsAtFault}
use Rattle.graft_model.specs.Setups.{IsSetup}
use Rattle.graft_laws.specs.Ranges.{IsInRange}
use Rattle.lab_tables.specs.declared.input.LabInput.{LabInput}
use Rattle.lab_input.specs.declared.bad.BadInput.{BadInput}
use Rattle.lab_input.specs.Labs.{input_of, InputOf}
use Rattle.lab_setup.specs.Setups.{setup_of}
use Rattle.lab_report.specs.declared.lab.Lab.{Lab}
use Rattle.lab_run.specs.Runs.{RanLab}
use Rattle.run_auditor.specs.Audits.{IsAudit, IsRunTo}
use Rattle.run_auditor.specs.Laws.{NoTellsOfNone}
use Rattle.run_auditor.specs.declared.audit.Audit.{Audit}
use Rattle.run_auditor.specs.declared.audit.Audit.TheVariants as audits
use Rattle.lab_audit.specs.Told.{TellsOf, end_of, undivided, unread, unlined, audited}
use Rattle.lab_audit.specs.declared.audited.AuditEnd.{AuditEnd}
use Rattle.lab_audit.specs.declared.audited.AuditEnd.TheVariants.{Yes}

no_input : (bad : BadInput) (input : LabInput) (answer : Result LabInput BadInput) → answer ≡ Err bad → answer ≡ Ok input → ⊥
no_input bad input answer is also = let both : Err bad ≡ Ok input = sym is ∙ also in absurd (cc)

one_input : (one other : LabInput) (answer : Result LabInput BadInput) → answer ≡ Ok one → answer ≡ Ok other → one ≡ other
one_input one other answer is also = let both : Ok one ≡ Ok other = sym is ∙ also in cc

module _ (bytes : List ℕ) (lab : Lab) (input : InputOf bytes lab.input) (ran : RanLab lab) (fit : AreEntries lab.journal)
    (divides : Divides (journal_text bytes lab.journal) bytes (journal_lines lab.journal))
    (one_way : (text one rest other left : List ℕ) → Divides text one rest → Divides text other left → (one ≡ other) × (rest ≡ left))
    (one_list : (rest : List ℕ) (ones others : List JournalEntry) → AreLinesOf ones rest → AreLinesOf others rest → ones ≡ others)
    (sound : (rest : List ℕ) (entries : List JournalEntry) (i : ℕ) → AreLinesOf entries rest → ¬ IsAtFault rest i)
    (no : NoTellsOfNone) (setup : IsSetup (setup_of lab.input)) (in_range : IsInRange (setup_of lab.input)) where
  abbrev text : List ℕ
  text = journal_text bytes lab.journal

  lines : AreLinesOf lab.journal (journal_lines lab.journal)
  lines = record { fit = fit; lines = refl }

  run : IsRunTo (setup_of lab.input) lab.journal ran.world
  run = record { sorted = ran.rises; events = ran.events; entries_of = ran.entries_of; run = ran.run; clocks = ran.clocks }

  yes : (answer : Audit) → IsAudit (setup_of lab.input) lab.journal answer → end_of answer ≡ Yes
  yes (audits.Yes events quiet) is = refl
  yes (audits.No index why) is = absurd (no (setup_of lab.input) lab.journal index why ran.world setup in_range is run)

  same_input : (other rest : List ℕ) → Divides text other rest → (other ≡ bytes) × (rest ≡ journal_lines lab.journal)
  same_input other rest is = one_way text other rest bytes (journal_lines lab.journal) is divides

  pub passes : (told : List ℕ) (end : AuditEnd) → TellsOf text told end → end ≡ Yes
  passes told end (undivided none is e) = absurd (none (record { input = bytes; rest = journal_lines lab.journal; divided = divides.divided }))
  passes told end (unread other rest bad is read says e) =
      absurd (no_input bad lab.input (input_of bytes) (subst (λ b. input_of b ≡ Err bad) (same_input other rest is).0 read) input)
  passes told end (unlined other rest found line is read fault says e) =
      absurd (sound (journal_lines lab.journal) lab.journal line lines (subst (λ r. IsAtFault r line) (same_input other rest is).1 fault))
  passes told end (audited other rest found journal answer is read are says told_is e) =
      let same = same_input other rest is in
      let its = one_input found lab.input (input_of bytes) (subst (λ b. InputOf b found) same.0 read) input in
      let all = one_list (journal_lines lab.journal) journal lab.journal (subst (AreLinesOf journal) same.1 are) lines in
      e ∙ yes answer (subst (λ entries. IsAudit (setup_of lab.input) entries answer) all (subst (λ i. IsAudit (setup_of i) journal answer) its says))
