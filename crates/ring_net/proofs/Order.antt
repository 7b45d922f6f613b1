-- A net's journals stay in order.
use Rattle.std.proofs.Common.{◌≡◌, ◌≤◌, ◌<◌, ℕ, zero, suc, Bool, List, [], ◌∷◌, ◌++◌, length, get_or, map}
use Rattle.std.proofs.Common.{take, drop, refl, ap, sym, subst, ◌∙◌, arith, ◌⊎◌, inl, inr}
use Rattle.std.specs.Prelude.{slice_get}
use Rattle.std.specs.List.{AllByRecursion}
use Rattle.std.proofs.lemmas.Bool.Decides.{eqb_tells}
use Rattle.std.proofs.lemmas.List.{append-nil}
use Rattle.ring_net.specs.declared.entry.JournalEntry.{JournalEntry}
use Rattle.ring_net.specs.declared.cell.Cell.{Cell}
use Rattle.ring_net.specs.Deeds.{Deed, Makes, IsDeedOf, Rising, deeds}
use Rattle.ring_net.specs.Journals.{ClocksRise, IsJournal, AreJournals}
use Rattle.ring_net.specs.Phases.{View, IsNewNet, InOrder, Levelled, NetPhase, Between}
use Rattle.ring_net.specs.Nets.{journal_of, view_of}
use Rattle.ring_net.specs.Left.{HasJournals, journals_of, actors_of}
use Rattle.ring_net.proofs.Replays.{all-append, clocked_rises, entries_deeds, rising_counted}
use Rattle.ring_net.proofs.Lists.{written_back}

-- ---- entries

below : (c d : ℕ) (es : List JournalEntry) → c ≤ d → AllByRecursion (λ (e : JournalEntry). e.clock ≤ c) es
    → AllByRecursion (λ (e : JournalEntry). e.clock ≤ d) es
below c d [] l h = tt
below c d (e ∷ es) l h = (omega (arith, l, h.0), below c d es l h.1)

-- an entry that is no later than c stands before those that are later
before : (e : JournalEntry) (c : ℕ) (es : List JournalEntry) → e.clock ≤ c → AllByRecursion (λ (f : JournalEntry). c < f.clock) es
    → AllByRecursion (λ (f : JournalEntry). e.clock < f.clock) es
before e c [] l h = tt
before e c (f ∷ es) l h = (omega (arith, l, h.0), before e c es l h.1)

pub rise-append : (c : ℕ) (xs ys : List JournalEntry) → ClocksRise xs → AllByRecursion (λ (e : JournalEntry). e.clock ≤ c) xs → ClocksRise ys
    → AllByRecursion (λ (e : JournalEntry). c < e.clock) ys → ClocksRise (xs ++ ys)
rise-append c [] ys h l k m = k
rise-append c (x ∷ xs) ys h l k m = (all-append (λ (f : JournalEntry). x.clock < f.clock) xs ys h.0 (before x c ys l.0 m), rise-append c xs ys h.1 l.1 k m)

module _ {I : Type 0} where
  abbrev entries : List (Deed I) → List JournalEntry
  entries ds = map (λ (d : Deed I). d.entry) ds

  pub rising_ends : (c d : ℕ) (ds : List (Deed I)) → Rising c ds d → c ≤ d
  rising_ends c d [] h = h
  rising_ends c d (e ∷ es) h = let k = rising_ends e.entry.clock d es h.1 in omega (arith, k, h.0)

  pub rising_above : (b c d : ℕ) (ds : List (Deed I)) → b ≤ c → Rising c ds d → AllByRecursion (λ (e : JournalEntry). b < e.clock) (entries ds)
  rising_above b c d [] l h = tt
  rising_above b c d (e ∷ es) l h = (omega (arith, l, h.0), rising_above b e.entry.clock d es (omega (arith, l, h.0)) h.1)

  pub rising_rise : (c d : ℕ) (ds : List (Deed I)) → Rising c ds d → ClocksRise (entries ds)
  rising_rise c d [] h = tt
  rising_rise c d (e ∷ es) h = (rising_above e.entry.clock e.entry.clock d es (omega arith) h.1, rising_rise e.entry.clock d es h.1)

  pub rising_below : (c d : ℕ) (ds : List (Deed I)) → Rising c ds d → AllByRecursion (λ (e : JournalEntry). e.clock ≤ d) (entries ds)
  rising_below c d [] h = tt
  rising_below c d (e ∷ es) h = (rising_ends e.entry.clock d es h.1, rising_below e.entry.clock d es h.1)

  own_entries : (k : ℕ) (ds : List (Deed I)) → AllByRecursion (IsDeedOf k) ds → AllByRecursion (λ (e : JournalEntry). e.actor ≡ k) (entries ds)
  own_entries k [] h = tt
  own_entries k (d ∷ ds) h = (h.0, own_entries k ds h.1)

  -- a journal with these events more
  grown : (k c d : ℕ) (es : List JournalEntry) (ds : List (Deed I)) → IsJournal k es → AllByRecursion (λ (e : JournalEntry). e.clock ≤ c) es
      → AllByRecursion (IsDeedOf k) ds → Rising c ds d → IsJournal k (es ++ entries ds)
  grown k c d es ds j l own h = record {
    own = all-append (λ (e : JournalEntry). e.actor ≡ k) es (entries ds) j.own (own_entries k ds own);
    rising = rise-append c es (entries ds) j.rising l (rising_rise c d ds h) (rising_above c c d ds (omega arith) h);
  }

  grown_below : (c d : ℕ) (es : List JournalEntry) (ds : List (Deed I)) → AllByRecursion (λ (e : JournalEntry). e.clock ≤ c) es → Rising c ds d
      → AllByRecursion (λ (e : JournalEntry). e.clock ≤ d) (es ++ entries ds)
  grown_below c d es ds l h = all-append (λ (e : JournalEntry). e.clock ≤ d) es (entries ds) (below c d es (rising_ends c d ds h) l) (rising_below c d ds h)

-- ---- views

below_or_past : (k n : ℕ) → (k < n) ⊎ (n ≤ k)
below_or_past k n = grind arith

some_of : {A : Type 0} (xs : List A) (k : ℕ) → k < length xs → A
some_of [] k h = absurd (omega arith)
some_of (x ∷ xs) k h = x

module _ {A I : Type 0} where
  pub order_new : (actors : List A) (edges : List (ℕ × ℕ)) (v : View A I) → IsNewNet actors edges v → InOrder v
  order_new actors edges v h = record {
    journals = λ k. rw (h.journals k) (record { own = tt; rising = tt });
    none = λ k past. h.journals k;
    clocks = λ k k_in. rw (h.journals k) tt;
  }

  pub order_level : (old new : View A I) → Levelled old new → InOrder old → InOrder new
  order_level old new l h = record {
    journals = λ k. rw (l.only.journals k) (h.journals k);
    none = λ k past. l.only.journals k ∙ h.none k (omega (arith, past, ap (λ (xs : List A). length xs) l.only.actors));
    clocks = λ k k_in. let k_old : k < length old.actors = omega (arith, k_in, ap (λ (xs : List A). length xs) l.only.actors) in
        rw (l.only.journals k, l.level k k_in) (below (old.clock k) l.clock (old.journal k) (l.greatest.bound k k_old) (h.clocks k k_old));
  }

  -- the list of the cells' journals has those of the view
  has_journals : (cells : List (Cell A I)) (edges : List (ℕ × ℕ)) → HasJournals (view_of cells edges) (journals_of cells)
  has_journals cells edges = record { size = same_lengths cells; each = each cells }
    where
      same_lengths : (cells : List (Cell A I)) → length (journals_of cells) ≡ length (actors_of cells)
      same_lengths [] = refl
      same_lengths (c ∷ cells) = ap (λ n. suc n) (same_lengths cells)

      each : (cells : List (Cell A I)) (k : ℕ) → get_or (journals_of cells) k [] ≡ journal_of (slice_get cells k)
      each [] k = refl
      each (c ∷ cells) zero = refl
      each (c ∷ cells) (suc k) = each cells k

  -- the same of a vector of cells whose slice was written
  pub has_written : (n : ℕ) (cells new : List (Cell A I)) (edges : List (ℕ × ℕ)) (journals : List (List JournalEntry)) → n ≡ length cells
      → length new ≡ n → journals ≡ journals_of (take n (new ++ drop (length new) cells)) → journals_of new ≡ journals_of cells
      → HasJournals (view_of cells edges) journals
  has_written n cells new edges journals size same is kept = rw (is, written_back n new cells size (same ∙ size), kept) (has_journals cells edges)

  pub are_journals : (v : View A I) (journals : List (List JournalEntry)) → HasJournals v journals → InOrder v → AreJournals journals
  are_journals v journals h o k = rw (h.each k) (o.journals k)

module _ {A P I : Type 0} (part : A → P) (makes : Makes P I) where
  pub order_phase : (took : A → ℕ → I → List (Deed I) → A → Type 0) (turned : A → List (Deed I) → A → Type 0) (old new : View A I)
      → NetPhase part makes took turned old new → InOrder old → InOrder new
  order_phase took turned old new p h = record { journals = λ k. journals k (below_or_past k (length old.actors)); none = none; clocks = clocks }
    where
      journal : (k : ℕ) → new.journal k ≡ old.journal k ++ entries (deeds (p.notes k))
      journal k = p.journals k ∙ ap (λ xs. old.journal k ++ xs) (sym (entries_deeds (p.notes k)))

      journals : (k : ℕ) → (k < length old.actors) ⊎ (length old.actors ≤ k) → IsJournal k (new.journal k)
      journals k (inl k_in) = let did = p.actors k (some_of old.actors k k_in) k_in in
          rw (journal k) (grown k (old.clock k) (new.clock k) (old.journal k) (deeds (p.notes k)) (h.journals k)
          (h.clocks k k_in) did.own (clocked_rises (old.clock k) (new.clock k) (p.notes k) did.clocks))
      journals k (inr past) = rw (p.journals k, p.none k past, append-nil (old.journal k)) (h.journals k)

      none : (k : ℕ) → length new.actors ≤ k → new.journal k ≡ []
      none k past = let old_past : length old.actors ≤ k = omega (arith, past, p.size) in
          rw (p.journals k, p.none k old_past, append-nil (old.journal k)) (h.none k old_past)

      clocks : (k : ℕ) → k < length new.actors → AllByRecursion (λ (e : JournalEntry). e.clock ≤ new.clock k) (new.journal k)
      clocks k k_in = let k_old : k < length old.actors = omega (arith, k_in, p.size) in let did = p.actors k (some_of old.actors k k_old) k_old in
          rw (journal k) (grown_below (old.clock k) (new.clock k) (old.journal k) (deeds (p.notes k))
          (h.clocks k k_old) (clocked_rises (old.clock k) (new.clock k) (p.notes k) did.clocks))

  pub order_between : (pauses : A → List (Deed I) → A → Type 0) (k : ℕ) (old new : View A I) (result : Bool) → k < length old.actors
      → Between part makes pauses k old new result → InOrder old → InOrder new
  order_between pauses k old new result k_old p h = record {
    journals = λ j. elim (eqb_tells j k) [
      | inl s ↦ subst (λ n. IsJournal n (new.journal n)) (sym s.1)
          (rw (p.journal) (grown k p.from p.to (old.journal k) p.deeds (h.journals k) from_below p.own rising))
      | inr ne ↦ rw (p.journals j ne.1) (h.journals j)
    ];
    none = λ j past. let old_past : length old.actors ≤ j = omega (arith, past, p.size) in
        p.journals j (λ s. absurd (omega (arith, s, k_old, old_past))) ∙ h.none j old_past;
    clocks = λ j j_in. let j_old : j < length old.actors = omega (arith, j_in, p.size) in rw (p.level j j_in) (elim (eqb_tells j k) [
      | inl s ↦ subst (λ n. AllByRecursion (λ (e : JournalEntry). e.clock ≤ p.to) (new.journal n))
          (sym s.1) (rw (p.journal) (grown_below p.from p.to (old.journal k) p.deeds from_below rising))
      | inr ne ↦ rw (p.journals j ne.1) (below (old.clock j) p.to (old.journal j) (high j j_old) (h.clocks j j_old))
    ]);
  }
    where
      rising : Rising p.from p.deeds p.to
      rising = rising_counted p.from p.to p.deeds p.counted

      from_below : AllByRecursion (λ (e : JournalEntry). e.clock ≤ p.from) (old.journal k)
      from_below = below (old.clock k) p.from (old.journal k) (p.greatest.bound k k_old) (h.clocks k k_old)

      high : (j : ℕ) → j < length old.actors → old.clock j ≤ p.to
      high j j_in = let l : old.clock j ≤ p.from = p.greatest.bound j j_in in
          let m : p.from ≤ p.to = rising_ends p.from p.to p.deeds rising in omega (arith, l, m)
