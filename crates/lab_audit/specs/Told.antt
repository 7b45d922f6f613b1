-- What is said of a text of which an audit is asked.
use Rattle.std.specs.Prelude.{ℕ, ◌≡◌, Bool, true, false, List, [], ◌∷◌, ◌++◌, codes, decimal, Err}
use Rattle.ring_net.specs.declared.entry.JournalEntry.{JournalEntry}
use Rattle.lab_tables.specs.declared.input.LabInput.{LabInput}
use Rattle.lab_input.specs.declared.bad.BadInput.{BadInput}
use Rattle.lab_input.specs.declared.bad.BadInput.TheVariants.{Shape, Limit}
use Rattle.lab_input.specs.Labs.{input_of, InputOf}
use Rattle.lab_hints.specs.Hints.{hint_line, IsHint}
use Rattle.lab_report.specs.BadText.{bad_line}
use Rattle.lab_setup.specs.Setups.{setup_of}
use Rattle.journal_form.specs.Reading.{AreLinesOf, Divides, HasDividingLine, IsAtFault}
use Rattle.run_auditor.specs.Audits.{IsAudit}
use Rattle.run_auditor.specs.declared.audit.Audit.{Audit}
use Rattle.run_auditor.specs.declared.audit.Audit.TheVariants as audits
use Rattle.run_auditor.specs.declared.audit.Why.{Why}
use Rattle.run_auditor.specs.declared.audit.Why.TheVariants.{Order, Kind, Condition, Clock}
use Rattle.lab_audit.specs.declared.audited.AuditEnd.{AuditEnd}
use Rattle.lab_audit.specs.declared.audited.AuditEnd.TheVariants.{NoJournal, Yes, No}

-- ---- a text that is no journal

-- The text is what is said of bytes that are refused for this fault: a line with the fault, and a hint.
abbrev pub IsRefusal : List ℕ → BadInput → List ℕ → Type 0
IsRefusal bytes bad text = (hint : List ℕ) × IsHint bytes bad hint × (text ≡ bad_line bad ++ hint)

-- the limit of bytes of a journal's text
abbrev pub most_text : ℕ
most_text = 268435456

-- what is said of a text that is longer
abbrev pub long_text : List ℕ
long_text = bad_line (Limit (codes "input") 268435457) ++ hint_line (codes "the text of a journal has at most 268435456 bytes")

-- what is said of one that has no line `%% journal 1`
abbrev pub undivided_text : List ℕ
undivided_text = bad_line (Shape (codes "journal"))
    ++ hint_line (codes "a journal is an input, a line %% journal 1, a line for each entry, and a line %% end, as graftlab journal writes it")

-- what is said of one that has this line behind that one, counted from 0, which isn't as in a journal
abbrev pub line_text : ℕ → List ℕ
line_text line = bad_line (Shape (codes "journal[" ++ decimal line ++ codes "]"))
    ++ hint_line (codes "behind the line %% journal 1 each line is CLOCK ACTOR KIND A B C in decimal, and the last one is %% end")

-- ---- an answer

abbrev pub end_text : Bool → List ℕ
end_text true = codes "quiet"
end_text false = codes "running"

abbrev pub reason_text : Why → List ℕ
reason_text Order = codes "order"
reason_text Kind = codes "kind"
reason_text Condition = codes "condition"
reason_text Clock = codes "clock"

-- the line of an answer
abbrev pub answer_text : Audit → List ℕ
answer_text (audits.Yes events quiet) = codes "audit yes events " ++ decimal events ++ codes " " ++ end_text quiet ++ 10 ∷ []
answer_text (audits.No event why) = codes "audit no event " ++ decimal event ++ codes " reason " ++ reason_text why ++ 10 ∷ []

abbrev pub end_of : Audit → AuditEnd
end_of (audits.Yes events quiet) = Yes
end_of (audits.No event why) = No

-- ---- the whole

-- What is said of a text, and how its audit ended. It has no line that divides it; or what stands before that line is no input; or a line behind it
-- isn't as in a journal; or it is an input and a journal, which is audited.
pub data TellsOf (text told : List ℕ) (end : AuditEnd) : Type 0 where
  undivided : ¬ HasDividingLine text → told ≡ undivided_text → end ≡ NoJournal → TellsOf text told end
  unread : (input rest : List ℕ) (bad : BadInput) → Divides text input rest → input_of input ≡ Err bad → IsRefusal input bad told → end ≡ NoJournal
      → TellsOf text told end
  unlined : (input rest : List ℕ) (lab : LabInput) (line : ℕ) → Divides text input rest → InputOf input lab → IsAtFault rest line
      → told ≡ line_text line → end ≡ NoJournal → TellsOf text told end
  audited : (input rest : List ℕ) (lab : LabInput) (journal : List JournalEntry) (answer : Audit) → Divides text input rest → InputOf input lab
      → AreLinesOf journal rest → IsAudit (setup_of lab) journal answer → told ≡ answer_text answer → end ≡ end_of answer → TellsOf text told end
