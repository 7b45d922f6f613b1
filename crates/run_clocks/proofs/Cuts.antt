-- A sorted list of events, cut where all clocks were level.
use Rattle.std.proofs.Common.{◌≡◌, ◌≤◌, ℕ, List, [], ◌∷◌, ◌++◌, ◌==◌, length, refl, ap, sym, subst, ◌∙◌, arith, inl, inr}
use Rattle.std.specs.List.{AllByRecursion}
use Rattle.std.proofs.lemmas.List.{length-map, map-append}
use Rattle.std.proofs.lemmas.List.Elements.{filter-append}
use Rattle.ring_net.specs.declared.entry.JournalEntry.{JournalEntry}
use Rattle.ring_net.specs.Deeds.{Noted, Rising, deeds, entries_of}
use Rattle.journal_merge.specs.Merges.{AreSorted, Interleaves, IsCut, entries_by}
use Rattle.journal_merge.specs.Growth.{noted_by}
use Rattle.journal_merge.proofs.Orders.{equal_or_not, by_here, by_else, IsLow, IsHigh, merged_cut}
use Rattle.journal_merge.proofs.Runs.{own_here, own_else}

-- two lists of the same lengths in front
same_fronts : {X : Type 0} (xs ys us vs : List X) → length xs ≡ length us → xs ++ ys ≡ us ++ vs → (xs ≡ us) × (ys ≡ vs)
same_fronts [] ys [] vs l e = (refl, e)
same_fronts [] ys (u ∷ us) vs l e = absurd (omega (arith, l))
same_fronts (x ∷ xs) ys [] vs l e = absurd (omega (arith, l))
same_fronts (x ∷ xs) ys (u ∷ us) vs l e =
    let rest : xs ++ ys ≡ us ++ vs = cc in
    let r : (xs ≡ us) × (ys ≡ vs) = same_fronts xs ys us vs (omega (arith, l)) rest in
    let head : x ≡ u = cc in
    (cc (head, r.0), r.1)

module _ {I : Type 0} where
  record Parts (events : List (Noted I)) (front back : List JournalEntry) : Type 0 where
    first : List (Noted I)
    second : List (Noted I)
    whole : events ≡ first ++ second
    first_is : entries_of first ≡ front
    second_is : entries_of second ≡ back

  one_more : (n : Noted I) (x : JournalEntry) (events : List (Noted I)) (front back : List JournalEntry) → n.deed.entry ≡ x → Parts events front back
      → Parts (n ∷ events) (x ∷ front) back
  one_more n x events front back head r = record {
    first = n ∷ r.first;
    second = r.second;
    whole = ap (λ zs. n ∷ zs) r.whole;
    first_is = cc (head, r.first_is);
    second_is = r.second_is;
  }

  parts : (events : List (Noted I)) (front back : List JournalEntry) → entries_of events ≡ front ++ back → Parts events front back
  parts events [] back e = record { first = []; second = events; whole = refl; first_is = refl; second_is = e }
  parts [] (x ∷ front) back e = absurd cc
  parts (n ∷ events) (x ∷ front) back e =
      let rest : entries_of events ≡ front ++ back = cc in
      let head : n.deed.entry ≡ x = cc in
      one_more n x events front back head (parts events front back rest)

  pub entries_by_of : (k : ℕ) (events : List (Noted I)) → entries_by k (entries_of events) ≡ entries_of (noted_by k events)
  entries_by_of k [] = refl
  entries_by_of k (n ∷ events) = elim (equal_or_not n.deed.entry.actor k) [
    | inl e ↦ by_here k n.deed.entry (entries_of events) e ∙ ap (λ es. n.deed.entry ∷ es) (entries_by_of k events)
        ∙ ap (λ ns. entries_of ns) (sym (own_here k n events e))
    | inr ne ↦ by_else k n.deed.entry (entries_of events) ne ∙ entries_by_of k events ∙ ap (λ ns. entries_of ns) (sym (own_else k n events ne))
  ]

  -- The events up to a clock, and those above it.
  pub record CutAt (events : List (Noted I)) (low high : ℕ → List (Noted I)) : Type 0 where
    pub first : List (Noted I)
    pub second : List (Noted I)
    pub whole : events ≡ first ++ second
    pub lows : (k : ℕ) → noted_by k first ≡ low k
    pub highs : (k : ℕ) → noted_by k second ≡ high k
    pub first_sorted : AreSorted (entries_of first)
    pub second_sorted : AreSorted (entries_of second)

  pub cut_at : (clock : ℕ) (events : List (Noted I)) (low high : ℕ → List (Noted I)) → AreSorted (entries_of events)
      → ((k : ℕ) → noted_by k events ≡ low k ++ high k)
      → ((k : ℕ) → AllByRecursion (IsLow clock) (entries_of (low k))) → ((k : ℕ) → AllByRecursion (IsHigh clock) (entries_of (high k)))
      → CutAt events low high
  cut_at clock events low high sorted each lows highs = record {
    first = p.first;
    second = p.second;
    whole = p.whole;
    lows = λ k. (both k).0;
    highs = λ k. (both k).1;
    first_sorted = subst (λ es. AreSorted es) (sym p.first_is) cut.first.sorted;
    second_sorted = subst (λ es. AreSorted es) (sym p.second_is) cut.second.sorted;
  }
    where
      merge : Interleaves (λ k. entries_of (low k) ++ entries_of (high k)) (entries_of events)
      merge = record {
        each = λ k. entries_by_of k events ∙ ap (λ ns. entries_of ns) (each k)
            ∙ map-append (λ (n : Noted I). n.deed.entry) (low k) (high k);
        sorted = sorted;
      }

      cut : IsCut (λ k. entries_of (low k)) (λ k. entries_of (high k)) (entries_of events)
      cut = merged_cut clock (λ k. entries_of (low k) ++ entries_of (high k)) (λ k. entries_of (low k)) (λ k. entries_of (high k)) (entries_of events) merge
          (λ k. refl) lows highs

      p : Parts events cut.front cut.back
      p = parts events cut.front cut.back cut.whole

      long : (k : ℕ) → length (noted_by k p.first) ≡ length (low k)
      long k = sym (length-map (noted_by k p.first) (λ (n : Noted I). n.deed.entry))
          ∙ ap (λ (es : List JournalEntry). length es) (sym (entries_by_of k p.first) ∙ ap (λ es. entries_by k es) p.first_is ∙ cut.first.each k)
          ∙ length-map (low k) (λ (n : Noted I). n.deed.entry)

      both : (k : ℕ) → (noted_by k p.first ≡ low k) × (noted_by k p.second ≡ high k)
      both k = same_fronts (noted_by k p.first) (noted_by k p.second) (low k) (high k) (long k)
          (sym (filter-append (λ (n : Noted I). n.deed.entry.actor == k) p.first p.second) ∙ ap (λ ns. noted_by k ns) (sym p.whole) ∙ each k)

  -- clocks that rise from one on are above it
  pub rising_high : (b c d : ℕ) (ns : List (Noted I)) → b ≤ c → Rising c (deeds ns) d → AllByRecursion (IsHigh b) (entries_of ns)
  rising_high b c d [] l h = tt
  rising_high b c d (n ∷ ns) l h = (omega (arith, l, h.0), rising_high b n.deed.entry.clock d ns (omega (arith, l, h.0)) h.1)
