-- Entries that were read so far, and how the reading ends.
use Rattle.std.proofs.Common.{◌≡◌, ◌≢◌, ℕ, ◌+◌, ◌<◌, ◌≤◌, List, [], ◌∷◌, ◌++◌, ◌==◌, true, false, length, refl, sym, ap, ◌∙◌, subst, arith, length-append}
use Rattle.std.specs.Prelude.{Result, Ok, Err, IfOk}
use Rattle.std.specs.List.{flat_map}
use Rattle.std.proofs.lemmas.Bool.{eqb-true, false≢true}
use Rattle.ring_net.specs.declared.entry.JournalEntry.{JournalEntry}
use Rattle.journal_form.specs.Journals.{end_line, entry_line}
use Rattle.journal_form.specs.Reading.{FitsWidths, AreEntries, AreLinesOf, HasFault, IsAtFault}
use Rattle.journal_form.proofs.Entries.{AreEntries-more, lines_more, line_is_long}

-- the lines of these entries were read, and this is left of the text
pub record SoFar (rest : List ℕ) (entries : List JournalEntry) (left : List ℕ) : Type 0 where
  pub fit : AreEntries entries
  pub before : rest ≡ flat_map entry_line entries ++ left
  pub long : length entries + length left ≤ length rest

pub SoFar-none : (rest : List ℕ) → SoFar rest [] rest
SoFar-none rest = record { fit = tt; before = refl; long = omega arith }

-- the text gets shorter with each line
pub shorter : (left : List ℕ) (e : JournalEntry) (behind : List ℕ) → left ≡ entry_line e ++ behind → length behind < length left
shorter left e behind line =
    omega (arith, ap (λ (xs : List ℕ). length xs) line, length-append (entry_line e) behind, line_is_long e)

pub SoFar-one : (rest : List ℕ) (entries : List JournalEntry) (e : JournalEntry) (left behind : List ℕ) → SoFar rest entries left → FitsWidths e
    → left ≡ entry_line e ++ behind → SoFar rest (entries ++ e ∷ []) behind
SoFar-one rest entries e left behind so_far fits line = record {
  fit = AreEntries-more entries e so_far.fit fits;
  before = lines_more rest entries e left behind so_far.before line;
  long = omega (arith, so_far.long, shorter left e behind line, length-append entries (e ∷ []));
}

pub whole : {E : Type 0} (rest : List ℕ) (entries : List JournalEntry) (left : List ℕ) (r : Result (List JournalEntry) E) → SoFar rest entries left
    → IfOk r (λ journal. (journal ≡ entries) × (left ≡ end_line)) → IfOk r (λ journal. AreLinesOf journal rest)
whole rest entries left (Ok journal) so_far ended = subst (λ (es : List JournalEntry). AreLinesOf es rest) (sym ended.0) (record {
  fit = so_far.fit;
  lines = so_far.before ∙ ap (λ (xs : List ℕ). flat_map entry_line entries ++ xs) ended.1;
})
whole rest entries left (Err e) so_far ended = ended

pub at_fault : (rest : List ℕ) (entries : List JournalEntry) (left : List ℕ) (i : ℕ) → SoFar rest entries left → HasFault (length entries) left i
    → IsAtFault rest i
at_fault rest entries left i so_far fault =
    record { entries = entries; behind = left; fit = so_far.fit; before = so_far.before; fault = fault }

-- whether something stands behind the line that ends a journal
pub nothing_behind : (behind : List ℕ) → true ≡ (length behind == 0) → behind ≡ []
nothing_behind [] is = refl
nothing_behind (x ∷ behind) is = absurd (omega (arith, eqb-true (length (x ∷ behind)) 0 (sym is)))

pub something_behind : (behind : List ℕ) → false ≡ (length behind == 0) → behind ≢ []
something_behind behind is = λ none. absurd (false≢true (is ∙ ap (λ (xs : List ℕ). length xs == 0) none))
