use Rattle.std.proofs.Common.{◌≡◌, ◌<◌, ℕ, zero, suc, List, [], ◌∷◌, ap, arith, subst, sym}
use Rattle.ring_net.specs.declared.entry.JournalEntry.{JournalEntry}
use Rattle.ring_net.specs.Journals.{IsJournal, AreJournals}
use Rattle.ring_tests.proofs.tests.three.Goals as goal

none : (k : ℕ) (es : List JournalEntry) → es ≡ [] → IsJournal k es
none k es is = subst (λ (xs : List JournalEntry). IsJournal k xs) (sym is) (record { own = tt; rising = tt })

rises : (k : ℕ) (e f : JournalEntry) (es : List JournalEntry) → es ≡ e ∷ f ∷ [] → e.actor ≡ k → f.actor ≡ k → e.clock < f.clock → IsJournal k es
rises k e f es is own also later =
    subst (λ (xs : List JournalEntry). IsJournal k xs) (sym is) (record { own = (own, (also, tt)); rising = ((later, tt), (tt, tt)) })

by_number : (first second third : List JournalEntry) → IsJournal 0 first → IsJournal 1 second → IsJournal 2 third → AreJournals (first ∷ second ∷ third ∷ [])
by_number first second third h k g zero = h
by_number first second third h k g (suc zero) = k
by_number first second third h k g (suc (suc zero)) = g
by_number first second third h k g (suc (suc (suc n))) = record { own = tt; rising = tt }

pub from_items-requires : goal.from_items-requires
from_items-requires c =
    rw (c.in_ok-push-2.ensures.ok, c.in_ok-push.ensures.ok, c.in_ok-list.ensures) (by_number c.in_ok-first.first c.new.result c.in_ok-third.third
    (rises 0 c.entry.result c.entry-2.result c.in_ok-first.first c.in_ok-first.ensures
    (ap (λ (e : JournalEntry). e.actor) c.entry.ensures) (ap (λ (e : JournalEntry). e.actor) c.entry-2.ensures)
    (omega (arith, ap (λ (e : JournalEntry). e.clock) c.entry.ensures, ap (λ (e : JournalEntry). e.clock) c.entry-2.ensures)))
    (none 1 c.new.result c.new.ensures)
    (rises 2 c.entry-3.result c.entry-4.result c.in_ok-third.third c.in_ok-third.ensures
    (ap (λ (e : JournalEntry). e.actor) c.entry-3.ensures) (ap (λ (e : JournalEntry). e.actor) c.entry-4.ensures)
    (omega (arith, ap (λ (e : JournalEntry). e.clock) c.entry-3.ensures, ap (λ (e : JournalEntry). e.clock) c.entry-4.ensures))))
