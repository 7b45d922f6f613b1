-- What stands between two marks of a journal.
use Rattle.std.proofs.Common.{◌≡◌, ◌-◌, ◌∙◌, ℕ, zero, suc, List, [], ◌∷◌, ◌++◌, length, map, take, drop, refl, ap, arith, take_at, length-append}
use Rattle.ring_net.specs.declared.entry.JournalEntry.{JournalEntry}
use Rattle.ring_net.specs.Deeds.{Deed, Noted, deeds, entries_of}
use Rattle.journal_merge.specs.Merges.{entries_by}
use Rattle.world_runs.specs.Marks.{before}
use Rattle.world_nodes.specs.Nodes.{Mail}
use Rattle.real_rounds.specs.Entries.{between}

cut_out : {A : Type 0} (had new more : List A) (m n : ℕ) → m ≡ length had → length new ≡ n → take n (drop m ((had ++ new) ++ more)) ≡ new
cut_out [] new more zero n e f = take_at new more n f
cut_out [] new more (suc m) n e f = absurd (omega (arith, e))
cut_out (x ∷ had) new more zero n e f = absurd (omega (arith, e))
cut_out (x ∷ had) new more (suc m) n e f = cut_out had new more m n (omega (arith, e)) f

-- between two marks of which the one has had an actor's first entries, and the other those and more
pub between_is : (journal : List JournalEntry) (mark next : List ℕ) (k : ℕ) (had new more : List JournalEntry)
    → entries_by k journal ≡ (had ++ new) ++ more → before mark k ≡ length had → before next k ≡ length (had ++ new)
    → between journal mark next k ≡ new
between_is journal mark next k had new more is at_mark at_next =
    ap (λ (es : List JournalEntry). take (before next k - before mark k) (drop (before mark k) es)) is
    ∙ cut_out had new more (before mark k) (before next k - before mark k) at_mark (omega (arith, at_mark, at_next, length-append had new))

-- ---- events of deeds are those of their entries

pub entries_in_deeds : (notes : List (Noted Mail)) → map (λ (d : Deed Mail). d.entry) (deeds notes) ≡ entries_of notes
entries_in_deeds [] = refl
entries_in_deeds (n ∷ ns) = ap (λ (es : List JournalEntry). n.deed.entry ∷ es) (entries_in_deeds ns)
