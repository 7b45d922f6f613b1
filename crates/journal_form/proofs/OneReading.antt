-- A text is of one journal, and one line of a text that isn't is the first at fault.
use Rattle.std.proofs.Common.{◌≡◌, ℕ, ◌+◌, List, [], ◌∷◌, ◌++◌, length, get_or, refl, sym, ap, ◌∙◌, subst, arith}
use Rattle.std.proofs.Common.{inl, inr, append_assoc, length-append}
use Rattle.std.specs.List.{flat_map}
use Rattle.std.proofs.lemmas.List.{append-nil, append_cancel_left}
use Rattle.ring_net.specs.declared.entry.JournalEntry.{JournalEntry}
use Rattle.journal_form.specs.Journals.{end_line, entry_line, journal_lines, journal_text}
use Rattle.journal_form.specs.Reading.{IsDivided, HasDividingLine, Divides, AreEntries, AreLinesOf, BeginsWithEntry, HasFault, IsAtFault}
use Rattle.journal_form.proofs.Dividing.{divider, parted, divided_later, divided_once}
use Rattle.journal_form.proofs.Entries.{body, with_newline, Without-body, begins_with_digit, end_is_no_entry, same_entries}

-- ---- what was written reads back

-- the lines of a journal don't divide a text
lines_divide_none : (entries : List JournalEntry) → AreEntries entries → ¬ HasDividingLine (journal_lines entries)
lines_divide_none [] all = λ has. by has.input has.rest has.divided
  where
    by : (input rest : List ℕ) → IsDivided end_line input rest → ⊥
    by input rest (inl e) = omega (arith, ap (λ (xs : List ℕ). length xs) (e ∙ parted input rest), length-append input (divider ++ rest))
    by input rest (inr e) = omega (arith, ap (λ (xs : List ℕ). length xs) e.1)
lines_divide_none (e ∷ es) all = λ has. lines_divide_none es all.1 (by has.input has.rest has.divided)
  where
    line : journal_lines (e ∷ es) ≡ entry_line e ++ journal_lines es
    line = append_assoc (entry_line e) (flat_map entry_line es) end_line

    by : (input rest : List ℕ) → IsDivided (journal_lines (e ∷ es)) input rest → HasDividingLine (journal_lines es)
    by input rest (inl is) =
        divided_later (body e) (journal_lines es) input rest (Without-body e all.0)
        (sym (with_newline e (journal_lines es)) ∙ sym line ∙ is ∙ parted input rest)
    by input rest (inr is) =
        absurd (omega (arith, begins_with_digit e (journal_lines es) all.0, ap (λ (xs : List ℕ). get_or xs 0 0) (sym line ∙ is.1)))

pub Divides-journal : (input : List ℕ) (entries : List JournalEntry) → AreEntries entries
    → Divides (journal_text input entries) input (journal_lines entries)
Divides-journal input entries all = record { divided = inl refl; last = lines_divide_none entries all }

-- ---- one list of entries, and one fault

no_entry_at_end : ¬ BeginsWithEntry end_line
no_entry_at_end = end_is_no_entry end_line [] (sym (append-nil end_line))

pub one_list : (rest : List ℕ) (ones others : List JournalEntry) → AreLinesOf ones rest → AreLinesOf others rest → ones ≡ others
one_list rest ones others one other =
    (same_entries ones others end_line end_line one.fit other.fit (sym one.lines ∙ other.lines) no_entry_at_end no_entry_at_end).0

no_entry_at_fault : (number i : ℕ) (behind : List ℕ) → HasFault number behind i → ¬ BeginsWithEntry behind
no_entry_at_fault number i behind (inl fault) = fault.1
no_entry_at_fault number i behind (inr fault) = end_is_no_entry behind fault.1.behind fault.1.line

pub no_fault : (rest : List ℕ) (entries : List JournalEntry) (i : ℕ) → AreLinesOf entries rest → ¬ IsAtFault rest i
no_fault rest entries i sound = λ at.
    by at.behind at.entries (same_entries entries at.entries end_line at.behind sound.fit at.fit (sym sound.lines ∙ at.before) no_entry_at_end
    (no_entry_at_fault (length at.entries) i at.behind at.fault)).1 at.fault
  where
    by : (behind : List ℕ) (others : List JournalEntry) → end_line ≡ behind → HasFault (length others) behind i → ⊥
    by behind others is (inl fault) = fault.2 (record { behind = []; line = sym is ∙ sym (append-nil end_line) })
    by behind others is (inr fault) =
        fault.1.more (append_cancel_left end_line fault.1.behind [] (sym fault.1.line ∙ sym is ∙ sym (append-nil end_line)))

pub one_fault : (rest : List ℕ) (i j : ℕ) → IsAtFault rest i → IsAtFault rest j → i ≡ j
one_fault rest i j one other =
    let same = same_entries one.entries other.entries one.behind other.behind one.fit other.fit (sym one.before ∙ other.before)
    (no_entry_at_fault (length one.entries) i one.behind one.fault) (no_entry_at_fault (length other.entries) j other.behind other.fault) in
    by (ap (λ (es : List JournalEntry). length es) same.0) same.1 one.fault other.fault
  where
    by : length one.entries ≡ length other.entries → one.behind ≡ other.behind → HasFault (length one.entries) one.behind i
        → HasFault (length other.entries) other.behind j → i ≡ j
    by long is (inl a) (inl b) = a.0 ∙ long ∙ sym b.0
    by long is (inl a) (inr b) = absurd (a.2 (record { behind = b.1.behind; line = is ∙ b.1.line }))
    by long is (inr a) (inl b) = absurd (b.2 (record { behind = a.1.behind; line = sym is ∙ a.1.line }))
    by long is (inr a) (inr b) = a.0 ∙ ap (λ (n : ℕ). n + 1) long ∙ sym b.0

-- texts of journals that differ are different
pub one_journal : (one other : List ℕ) (ones others : List JournalEntry) → AreEntries ones → AreEntries others
    → journal_text one ones ≡ journal_text other others → (one ≡ other) × (ones ≡ others)
one_journal one other ones others fit fit' e =
    let parts = divided_once (journal_text one ones) one (journal_lines ones) other (journal_lines others) (Divides-journal one ones fit)
    (subst (λ (text : List ℕ). Divides text other (journal_lines others)) (sym e) (Divides-journal other others fit')) in
    (parts.0, one_list (journal_lines ones) ones others (record { fit = fit; lines = refl }) (record { fit = fit'; lines = parts.1 }))
