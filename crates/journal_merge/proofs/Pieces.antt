-- Pieces of what a net did: phases, levels and calls at a mark, one after another, and the run that they are.
use Rattle.std.proofs.Common.{◌≡◌, ◌≢◌, ◌≤◌, ◌<◌, ℕ, Bool, true, false, List, [], ◌∷◌, ◌++◌, Option, Some, None, ◌==◌}
use Rattle.std.proofs.Common.{if◌then◌else◌, length, get_or, refl, ap, sym, subst, ◌∙◌, arith, ◌⊎◌, inl, inr, append_assoc, map}
use Rattle.std.specs.Prelude.{slice_get}
use Rattle.std.specs.List.{AllByRecursion}
use Rattle.std.proofs.lemmas.Bool.Decides.{nat_tests}
use Rattle.std.proofs.lemmas.List.{append-nil, map-append}
use Rattle.std.proofs.lemmas.List.Concat.{flat_map-append}
use Rattle.std.proofs.lemmas.Option.{slice_get-get_or, slice_get_past}
use Rattle.ring_net.specs.declared.entry.JournalEntry.{JournalEntry}
use Rattle.ring_net.specs.declared.entry.Stamped.{Stamped}
use Rattle.ring_net.specs.Deeds.{Deed, Noted, Makes, Replay, IsDeedOf, IsLater, Clocked, Rising, stamped}
use Rattle.ring_net.specs.Deeds.{puts, gets, sent_to, taken_from, deeds, noted, entries_of}
use Rattle.ring_net.specs.Phases.{View, InOrder, AllAt, Levelled, NetPhase, Between}
use Rattle.journal_merge.specs.Merges.{AreSorted, Interleaves, IsCut}
use Rattle.journal_merge.specs.Worlds.{DeedWorld}
use Rattle.ring_net.proofs.Replays.{all-append, deeds_noted, entries_noted, sent_noted, none_taken, clocked_none, rising_counted, replay-append}
use Rattle.ring_net.proofs.Order.{rising_ends}
use Rattle.ring_net.proofs.Takes.{deeds_both}
use Rattle.journal_merge.specs.Growth.{noted_by, UpToLevel, ClockedOver, IsWorldOf, Grew, RunsTo}
use Rattle.journal_merge.specs.Laws.{at_mark}
use Rattle.journal_merge.proofs.Orders.{equal_or_not, merged_cut, IsLow, IsHigh}
use Rattle.journal_merge.proofs.Runs.{Lift, lift, Ends, ends, later_all}
use Rattle.journal_merge.proofs.Clocks.{over_notes, over-append, over_rises, over_later}

below_or_past : (k n : ℕ) → (k < n) ⊎ (n ≤ k)
below_or_past k n = grind arith

some_of : {A : Type 0} (xs : List A) (k : ℕ) → k < length xs → A
some_of [] k h = absurd (omega arith)
some_of (x ∷ xs) k h = x

-- ---- clocks

module _ {I : Type 0} where
  rising_high : (b c d : ℕ) (ns : List (Noted I)) → b ≤ c → Rising c (deeds ns) d → AllByRecursion (IsHigh b) (entries_of ns)
  rising_high b c d [] l h = tt
  rising_high b c d (n ∷ ns) l h = (omega (arith, l, h.0), rising_high b n.deed.entry.clock d ns (omega (arith, l, h.0)) h.1)

-- ---- the events at a mark

-- by cases on whether it is this number, for a function with a value there alone
at_index : {I : Type 0} (k : ℕ) (ds : List (Deed I)) (n : ℕ) (Q : ℕ → List (Noted I) → Type 0) → Q k (noted 0 ds) → (n ≢ k → Q n [])
    → Q n (if n == k then noted 0 ds else [])
at_index {I} k ds n Q h f = elim (equal_or_not n k) [
  | inl e ↦ subst (λ m. Q m (if m == k then noted 0 ds else [])) (sym e) (rw (yes k) h)
  | inr ne ↦ rw (no n ne) (f ne)
]
  where
    yes : (m : ℕ) → (m == m) ≡ true
    yes m = grind (arith, nat_tests)

    no : (n : ℕ) → n ≢ k → (n == k) ≡ false
    no n h = grind (arith, nat_tests)

module _ {A P I : Type 0} (part : A → P) (makes : Makes P I) where
  -- ---- pieces

  pub phase_grows : (took : A → ℕ → I → List (Deed I) → A → Type 0) (turned : A → List (Deed I) → A → Type 0)
      (u v : View A I) (p : NetPhase part makes took turned u v)
      → Grew part makes u v [] p.notes
  phase_grows took turned u v p = record {
    size = p.size;
    replays = λ k d k_in. (p.actors k d k_in).replay;
    none = p.none;
    own = λ k. elim (below_or_past k (length u.actors)) [ inl k_in ↦ (p.actors k (some_of u.actors k k_in) k_in).own | inr past ↦ rw (p.none k past) tt ];
    clocks = λ k k_in. (p.actors k (some_of u.actors k k_in) k_in).clocks;
    journals = p.journals;
    edges = p.edges;
    carries = p.carries;
    apart = p.apart;
  }

  pub level_grows : (u v : View A I) (l : Levelled u v) → Grew part makes u v (l.clock ∷ []) (λ k. [])
  level_grows u v l = record {
    size = ap (λ (xs : List A). length xs) l.only.actors;
    replays = λ k d k_in. ap (λ (xs : List A). part (get_or xs k d)) l.only.actors;
    none = λ k past. refl;
    own = λ k. tt;
    clocks = (
      λ k. [],
      record { first = λ k. []; after = u.clock; split = λ k. refl; clocked = λ k k_in. refl; greatest = l.greatest },
      λ k k_in. l.level k (omega (arith, k_in, ap (λ (xs : List A). length xs) l.only.actors)),
    );
    journals = λ k. l.only.journals k ∙ sym (append-nil (u.journal k));
    edges = l.only.edges;
    carries = λ a b e. append-nil (u.channel a b) ∙ sym (l.only.channels a b);
    apart = λ a b e. refl;
  }

  pub between_grows : (paused : A → List (Deed I) → A → Type 0) (u v : View A I) (k : ℕ) (answer : Bool) → k < length u.actors
      → (p : Between part makes paused k u v answer) → Grew part makes u v (p.from ∷ p.to ∷ []) (at_mark part makes k p.deeds)
  between_grows paused u v k answer k_in p = record {
    size = p.size;
    replays = λ j d j_in. at_index k ds j (λ n ns. Replay makes n (part (get_or u.actors n d)) (deeds ns) (part (get_or v.actors n d)))
        (rw (deeds_noted 0 ds) (p.replay d)) (λ ne. ap part (p.others j d ne));
    none = λ j past. at_index k ds j (λ n ns. length u.actors ≤ n → ns ≡ []) (λ h. absurd (omega (arith, h, k_in))) (λ ne h. refl) past;
    own = λ j. at_index k ds j (λ n ns. AllByRecursion (IsDeedOf n) (deeds ns)) (rw (deeds_noted 0 ds) p.own) (λ ne. tt);
    clocks = (at_mark part makes k ds, to_first, (λ j. [], to_second, λ j j_in. p.level j (omega (arith, j_in, p.size))));
    journals = λ j. at_index k ds j (λ n ns. v.journal n ≡ u.journal n ++ entries_of ns)
        (rw (entries_noted 0 ds) p.journal) (λ ne. p.journals j ne ∙ sym (append-nil (u.journal j)));
    edges = p.edges;
    carries = λ a b e. ap (λ xs. u.channel a b ++ xs) refl
        ∙ at_index k ds a (λ n ns. u.edge n b ≡ true → u.channel n b ++ sent_to b ns ≡ v.channel n b)
        (λ h. rw (sent_noted b 0 ds) (sym (p.channel b h))) (λ ne h. append-nil (u.channel a b) ∙ sym (p.channels a b ne)) e
        ∙ ap (λ xs. xs ++ v.channel a b) (sym (nothing a b));
    apart = λ a b e. nothing a b;
  }
    where
      ds : List (Deed I)
      ds = p.deeds

      to_first : UpToLevel (length u.actors) u.clock p.from (at_mark part makes k ds) (at_mark part makes k ds)
      to_first = record { first = λ j. []; after = u.clock; split = λ j. refl; clocked = λ j j_in. refl; greatest = p.greatest }

      -- the actor's clock is counted, and the others stand at the level
      last : ℕ → ℕ
      last j = if j == k then p.to else p.from

      last_here : (n : ℕ) → (if n == n then p.to else p.from) ≡ p.to
      last_here n = grind (arith, nat_tests)

      last_else : (n m : ℕ) → n ≢ m → (if n == m then p.to else p.from) ≡ p.from
      last_else n m h = grind (arith, nat_tests)

      more : p.from ≤ p.to
      more = rising_ends p.from p.to p.deeds (rising_counted p.from p.to p.deeds p.counted)

      most : (j : ℕ) (t : Bool) → (if t then p.to else p.from) ≤ p.to
      most j true = omega arith
      most j false = more

      to_second : UpToLevel (length u.actors) (λ j. p.from) p.to (at_mark part makes k ds) (λ j. [])
      to_second = record {
        first = at_mark part makes k ds;
        after = last;
        split = λ j. sym (append-nil (at_mark part makes k ds j));
        clocked = λ j j_in. at_index k ds j (λ n ns. Clocked p.from ns (last n))
            (rw (last_here k) (clocked_none p.from p.to 0 ds p.none p.counted)) (λ ne. last_else j k ne);
        greatest = record { bound = λ j j_in. most j (j == k); here = k; within = k_in; is = last_here k };
      }

      nothing : (a b : ℕ) → taken_from a (if b == k then noted 0 p.deeds else []) ≡ []
      nothing a b = at_index k p.deeds b (λ n ns. taken_from a ns ≡ []) (none_taken a 0 p.deeds p.none) (λ ne. refl)

  -- one piece after another
  pub grows_on : (u v t : View A I) (ls ms : List ℕ) (m n : ℕ → List (Noted I)) → Grew part makes u v ls m → Grew part makes v t ms n
      → Grew part makes u t (ls ++ ms) (λ k. m k ++ n k)
  grows_on u v t ls ms m n g h = record {
    size = h.size ∙ g.size;
    replays = λ k d k_in. rw (deeds_both (m k) (n k)) (replay-append makes k (part (get_or u.actors k d)) (part (get_or v.actors k d))
        (part (get_or t.actors k d)) (deeds (m k)) (deeds (n k)) (g.replays k d k_in) (h.replays k d (omega (arith, k_in, g.size))));
    none = λ k past. rw (g.none k past, h.none k (omega (arith, past, g.size))) refl;
    own = λ k. rw (deeds_both (m k) (n k)) (all-append (IsDeedOf k) (deeds (m k)) (deeds (n k)) (g.own k) (h.own k));
    clocks = over-append (length u.actors) u.clock ls m v.clock ms n t.clock g.clocks (subst (λ c. ClockedOver c v.clock ms n t.clock) g.size h.clocks);
    journals = λ k. h.journals k ∙ ap (λ xs. xs ++ entries_of (n k)) (g.journals k)
        ∙ append_assoc (u.journal k) (entries_of (m k)) (entries_of (n k))
        ∙ ap (λ xs. u.journal k ++ xs) (sym (map-append (λ (x : Noted I). x.deed.entry) (m k) (n k)));
    edges = λ a b. h.edges a b ∙ g.edges a b;
    carries = λ a b e. joined (u.channel a b) (sent_to b (m a)) (sent_to b (n a)) (taken_from a (m b)) (taken_from a (n b)) (v.channel a b) (t.channel a b)
        (sent_to b (m a ++ n a)) (taken_from a (m b ++ n b)) (flat_map-append (puts b) (m a) (n a))
        (flat_map-append (gets a) (m b) (n b)) (g.carries a b e) (h.carries a b (g.edges a b ∙ e));
    apart = λ a b e. flat_map-append (gets a) (m b) (n b) ∙ rw (g.apart a b e) (h.apart a b (g.edges a b ∙ e));
  }
    where
      joined : (c s s' t t' d e ss tt' : List (Stamped I)) → ss ≡ s ++ s' → tt' ≡ t ++ t' → c ++ s ≡ t ++ d → d ++ s' ≡ t' ++ e → c ++ ss ≡ tt' ++ e
      joined c s s' t t' d e ss tt' f g h k = ap (λ x. c ++ x) f ∙ sym (append_assoc c s s') ∙ ap (λ x. x ++ s') h ∙ append_assoc t d s'
          ∙ ap (λ x. t ++ x) k ∙ sym (append_assoc t t' e) ∙ ap (λ x. x ++ e) (sym g)

  -- where all clocks are level, the merged list is cut
  pub cuts_at_level : (u v : View A I) (levels : List ℕ) (notes : ℕ → List (Noted I)) (clock : ℕ) (merged : List JournalEntry) → InOrder u
      → AllAt u clock → Grew part makes u v levels notes → Interleaves v.journal merged → IsCut u.journal (λ k. entries_of (notes k)) merged
  cuts_at_level u v levels notes clock merged o level g h = merged_cut clock v.journal u.journal (λ k. entries_of (notes k)) merged h g.journals lows highs
    where
      lows : (k : ℕ) → AllByRecursion (IsLow clock) (u.journal k)
      lows k = elim (below_or_past k (length u.actors)) [
        | inl k_in ↦ subst (λ c. AllByRecursion (IsLow c) (u.journal k)) (level k k_in) (o.clocks k k_in)
        | inr past ↦ rw (o.none k past) tt
      ]

      highs : (k : ℕ) → AllByRecursion (IsHigh clock) (entries_of (notes k))
      highs k = elim (below_or_past k (length u.actors)) [
        | inl k_in ↦ rising_high clock (u.clock k) (v.clock k) (notes k) (omega (arith, level k k_in))
            (over_rises (length u.actors) u.clock levels notes v.clock k k_in g.clocks)
        | inr past ↦ rw (g.none k past) tt
      ]

  -- ---- the run

  part_or : Option A → P → P
  part_or None p = p
  part_or (Some a) p = part a

  pub merge_runs : (u v : View A I) (levels : List ℕ) (notes : ℕ → List (Noted I)) (merged : List JournalEntry) (w : DeedWorld P I)
      → Grew part makes u v levels notes → Interleaves (λ k. entries_of (notes k)) merged → IsWorldOf part u w
      → RunsTo part makes u w levels notes merged v
  unfolding part_or
  merge_runs u v levels notes merged w g h is = record {
    events = o.notes;
    same = o.same;
    each = o.all;
    clocks = over_notes (length u.actors) u.clock levels notes (λ k. noted_by k o.notes) v.clock o.all g.clocks;
    stamps = λ a b there. rw (o.all a, o.all b) (g.carries a b there);
    last = e.last;
    run = e.run;
    is = record {
      parts = λ k d k_in. e.parts k ∙ ap (λ x. part_or x (w.part k)) (slice_get-get_or v.actors k d k_in);
      channels = λ a b there. e.channels a b ∙ ap (λ t. map (λ (x : Stamped I). x.item) (after t a b)) (sym (g.edges a b) ∙ there);
    };
    dropped = λ a b off. e.channels a b ∙ ap (λ t. map (λ (x : Stamped I). x.item) (after t a b)) off
        ∙ map-append (λ (x : Stamped I). x.item) (stamped 0 (w.channel a b)) (sent_to b (notes a))
        ∙ ap (λ xs. xs ++ map (λ (x : Stamped I). x.item) (sent_to b (notes a))) (items_stamped (w.channel a b))
        ∙ ap (λ xs. w.channel a b ++ map (λ (x : Stamped I). x.item) (sent_to b xs)) (sym (o.all a));
  }
    where
      later : (k : ℕ) → (k < length u.actors) ⊎ (length u.actors ≤ k) → AllByRecursion IsLater (notes k)
      later k (inl k_in) = over_later (length u.actors) u.clock levels notes v.clock k k_in g.clocks
      later k (inr past) = rw (g.none k past) tt

      o : Lift notes merged
      o = lift merged notes h.each

      before : Bool → ℕ → ℕ → List (Stamped I)
      before t a b = if t then u.channel a b else stamped 0 (w.channel a b)

      after : Bool → ℕ → ℕ → List (Stamped I)
      after t a b = if t then v.channel a b else stamped 0 (w.channel a b) ++ sent_to b (notes a)

      items_stamped : (xs : List I) → map (λ (x : Stamped I). x.item) (stamped 0 xs) ≡ xs
      items_stamped [] = refl
      items_stamped (x ∷ xs) = ap (λ ys. x ∷ ys) (items_stamped xs)

      sorted : AreSorted (entries_of o.notes)
      sorted = subst (λ xs. AreSorted xs) (sym o.same) h.sorted

      channels : (a b : ℕ) (t : Bool) → u.edge a b ≡ t → w.channel a b ≡ map (λ (x : Stamped I). x.item) (before t a b)
      channels a b true there = is.channels a b there
      channels a b false off = sym (items_stamped (w.channel a b))

      replays : (k : ℕ) → (k < length u.actors) ⊎ (length u.actors ≤ k)
          → Replay makes k (w.part k) (deeds (noted_by k o.notes)) (part_or (slice_get v.actors k) (w.part k))
      replays k (inl k_in) =
          let d : A = some_of u.actors k k_in in
          rw (o.all k, is.parts k d k_in, slice_get-get_or v.actors k d (omega (arith, k_in, g.size))) (g.replays k d k_in)
      replays k (inr past) = rw (o.all k, g.none k past, slice_get_past v.actors k (omega (arith, past, g.size))) refl

      carries : (a b : ℕ) (t : Bool) → u.edge a b ≡ t → before t a b ++ sent_to b (notes a) ≡ taken_from a (notes b) ++ after t a b
      carries a b true there = g.carries a b there
      carries a b false off = rw (g.apart a b off) refl

      e : Ends makes w o.notes (λ k. part_or (slice_get v.actors k) (w.part k)) (λ a b. after (u.edge a b) a b)
      e = ends makes o.notes w (λ k. part_or (slice_get v.actors k) (w.part k)) (λ a b. before (u.edge a b) a b) (λ a b. after (u.edge a b) a b) sorted
          (later_all o.notes (λ k. rw (o.all k) (later k (below_or_past k (length u.actors))))) (λ a b. channels a b (u.edge a b) refl)
          (λ k. replays k (below_or_past k (length u.actors)))
          (λ a b. rw (o.all a, o.all b) (carries a b (u.edge a b) refl))
