-- The clocks of all that a net did since it was new, from one beginning of a group to the next.
use Rattle.std.proofs.Common.{◌≡◌, ◌≢◌, ◌≤◌, ◌<◌, ◌+◌, ℕ, Bool, true, false, List, [], ◌∷◌, ◌++◌, length}
use Rattle.std.proofs.Common.{refl, ap, sym, subst, ◌∙◌, arith, inl, inr, append_assoc}
use Rattle.std.specs.Prelude.{◌⊎◌}
use Rattle.std.specs.List.{AllByRecursion}
use Rattle.std.proofs.lemmas.Bool.Decides.{nat_tests}
use Rattle.std.proofs.lemmas.List.{append-nil, map-append}
use Rattle.ring_net.specs.declared.entry.JournalEntry.{JournalEntry}
use Rattle.ring_net.specs.Deeds.{Deed, Noted, Makes, IsDeedOf, Clocked, Counted, Rising, deeds, noted, entries_of}
use Rattle.ring_net.specs.Phases.{View, IsGreatest, Levelled, Between}
use Rattle.ring_net.proofs.Replays.{all-append, clocked-append, clocked_rises}
use Rattle.journal_merge.specs.Merges.{AreSorted}
use Rattle.journal_merge.specs.Growth.{noted_by, Grew}
use Rattle.journal_merge.specs.Laws.{at_mark}
use Rattle.journal_merge.proofs.Orders.{equal_or_not, IsLow, IsHigh}
use Rattle.journal_merge.proofs.Runs.{own_here, own_else}
use Rattle.journal_merge.proofs.Pieces.{level_grows, between_grows, grows_on}
use Rattle.run_clocks.proofs.Fronts.{Along, along_join, IsTimed, StandsAt, piece_timed, go_timed}
use Rattle.run_clocks.proofs.Cuts.{CutAt, cut_at, rising_high}
use Rattle.journal_merge.proofs.Growths.{grew_none}

pub below_or_past : (k n : ℕ) → (k < n) ⊎ (n ≤ k)
below_or_past k n = grind arith

none_left : {X : Type 0} (xs ys : List X) → xs ++ ys ≡ [] → ys ≡ []
none_left [] ys e = e
none_left (x ∷ xs) ys e = absurd cc

all_lower : (low high : ℕ) (es : List JournalEntry) → low ≤ high → AllByRecursion (IsLow low) es → AllByRecursion (IsLow high) es
all_lower low high [] l h = tt
all_lower low high (e ∷ es) l h = (omega (arith, l, h.0), all_lower low high es l h.1)

-- ---- events by their actors

module _ {I : Type 0} where
  -- what holds of each actor's events holds of all
  all_noted : (Q : Noted I → Type 0) (ns : List (Noted I)) → ((k : ℕ) → AllByRecursion Q (noted_by k ns)) → AllByRecursion Q ns
  all_noted Q [] each = tt
  all_noted Q (n ∷ ns) each = (
    (subst (λ (ms : List (Noted I)). AllByRecursion Q ms) (own_here n.deed.entry.actor n ns refl)
        (each n.deed.entry.actor)).0,
    all_noted Q ns rest,
  )
    where
      rest : (k : ℕ) → AllByRecursion Q (noted_by k ns)
      rest k = elim (equal_or_not n.deed.entry.actor k) [
        | inl e ↦ (subst (λ (ms : List (Noted I)). AllByRecursion Q ms) (own_here k n ns e) (each k)).1
        | inr ne ↦ subst (λ (ms : List (Noted I)). AllByRecursion Q ms) (own_else k n ns ne) (each k)
      ]

  noted_own : (k : ℕ) (ns : List (Noted I)) → AllByRecursion (λ (n : Noted I). n.deed.entry.actor ≡ k) (noted_by k ns)
  noted_own k [] = tt
  noted_own k (n ∷ ns) = elim (equal_or_not n.deed.entry.actor k) [
    | inl e ↦ rw (own_here k n ns e) (e, noted_own k ns)
    | inr ne ↦ rw (own_else k n ns ne)
        (noted_own k ns)
  ]

  -- where actors from a number on did nothing, all is done by those below it
  all_within : (size : ℕ) (ns : List (Noted I)) → ((k : ℕ) → size ≤ k → noted_by k ns ≡ []) → AllByRecursion (λ (n : Noted I). n.deed.entry.actor < size) ns
  all_within size ns none = all_noted (λ (n : Noted I). n.deed.entry.actor < size) ns each
    where
      below : (k : ℕ) → k < size → (ms : List (Noted I)) → AllByRecursion (λ (n : Noted I). n.deed.entry.actor ≡ k) ms
          → AllByRecursion (λ (n : Noted I). n.deed.entry.actor < size) ms
      below k k_in [] own = tt
      below k k_in (m ∷ ms) own = (omega (arith, k_in, own.0), below k k_in ms own.1)

      each : (k : ℕ) → AllByRecursion (λ (n : Noted I). n.deed.entry.actor < size) (noted_by k ns)
      each k = elim (below_or_past k size) [
        | inl k_in ↦ below k k_in (noted_by k ns) (noted_own k ns)
        | inr past ↦ subst (λ (ms : List (Noted I)). AllByRecursion (λ (n : Noted I). n.deed.entry.actor < size) ms) (sym (none k past)) tt
      ]

  none_else : (k : ℕ) (n : Noted I) (ns : List (Noted I)) → noted_by k (n ∷ ns) ≡ [] → noted_by k ns ≡ []
  none_else k n ns none = elim (equal_or_not n.deed.entry.actor k) [
    | inl e ↦ (let some : n ∷ noted_by k ns ≡ [] = sym (own_here k n ns e) ∙ none in absurd cc)
    | inr ne ↦ sym (own_else k n ns ne) ∙ none
  ]

  -- where one actor alone did something, its events are all
  all_one : (k : ℕ) (ns : List (Noted I)) → ((j : ℕ) → j ≢ k → noted_by j ns ≡ []) → noted_by k ns ≡ ns
  all_one k [] none = refl
  all_one k (n ∷ ns) none = elim (equal_or_not n.deed.entry.actor k) [
    | inl e ↦ own_here k n ns e ∙ ap (λ (ms : List (Noted I)). n ∷ ms) (all_one k ns (λ j ne. none_else j n ns (none j ne)))
    | inr ne ↦ (let some : n ∷ noted_by n.deed.entry.actor ns ≡ [] = sym (own_here n.deed.entry.actor n ns refl) ∙ none n.deed.entry.actor ne in absurd cc)
  ]

  no_events : (ns : List (Noted I)) → ((k : ℕ) → noted_by k ns ≡ []) → [] ≡ ns
  no_events [] none = refl
  no_events (n ∷ ns) none = absurd (let some : n ∷ noted_by n.deed.entry.actor ns ≡ [] = sym (own_here n.deed.entry.actor n ns refl)
      ∙ none n.deed.entry.actor in cc)

  -- ---- clocks up to one

  rising_ends : (c d : ℕ) (ns : List (Noted I)) → Rising c (deeds ns) d → c ≤ d
  rising_ends c d [] h = h
  rising_ends c d (n ∷ ns) h = let l = rising_ends n.deed.entry.clock d ns h.1 in omega (arith, h.0, l)

  rising_low : (c d most : ℕ) (ns : List (Noted I)) → d ≤ most → Rising c (deeds ns) d → AllByRecursion (IsLow most) (entries_of ns)
  rising_low c d most [] l h = tt
  rising_low c d most (n ∷ ns) l h = ((let m = rising_ends n.deed.entry.clock d ns h.1 in omega (arith, l, m)), rising_low n.deed.entry.clock d most ns l h.1)

-- ---- the net

module _ {A P I : Type 0} (part : A → P) (makes : Makes P I) (go : JournalEntry → Bool) (a : View A I) where
  -- all that these actors noted, in the order of a journal, is timed, and then they have these clocks
  abbrev pub AreTimed : (ℕ → List (Noted I)) → (ℕ → ℕ) → Type 0
  AreTimed notes c = (events : List (Noted I)) → AreSorted (entries_of events) → ((k : ℕ) → noted_by k events ≡ notes k)
      → Along (IsTimed go) [] events × StandsAt go (length a.actors) c events

  -- What the net did since it was new: old events, up to a level at this clock, and new ones from there on, none of which begins a group.
  pub record Paced (v : View A I) : Type 0 where
    pub levels : List ℕ
    pub notes : ℕ → List (Noted I)
    pub grew : Grew part makes a v levels notes
    pub clock : ℕ
    pub old : ℕ → List (Noted I)
    pub new : ℕ → List (Noted I)
    pub split : (k : ℕ) → notes k ≡ old k ++ new k
    pub lows : (k : ℕ) → AllByRecursion (IsLow clock) (entries_of (old k))
    pub clocked : (k : ℕ) → k < length a.actors → Clocked clock (new k) (v.clock k)
    pub no_go : (k : ℕ) → AllByRecursion (λ (n : Noted I). go n.deed.entry ≡ false) (new k)
    pub timed : AreTimed old (λ k. clock)

  -- ---- at the beginning

  nothing_timed : AreTimed (λ k. []) (λ k. 0)
  nothing_timed events sorted each = subst (λ (ns : List (Noted I)). Along (IsTimed go) [] ns × StandsAt go (length a.actors) (λ k. 0) ns)
      (no_events events each) (tt, record { within = tt; at = λ k k_in. refl })

  pub paced_first : ((k : ℕ) → a.clock k ≡ 0) → Paced a
  paced_first clocks = record {
    levels = [];
    notes = λ k. [];
    grew = grew_none part makes a;
    clock = 0;
    old = λ k. [];
    new = λ k. [];
    split = λ k. refl;
    lows = λ k. tt;
    clocked = λ k k_in. clocks k;
    no_go = λ k. tt;
    timed = nothing_timed;
  }

  -- ---- all of it

  new_none : (v : View A I) (p : Paced v) (k : ℕ) → length a.actors ≤ k → p.new k ≡ []
  new_none v p k past = none_left (p.old k) (p.new k) (sym (p.split k) ∙ p.grew.none k past)

  new_rises : (v : View A I) (p : Paced v) (k : ℕ) → k < length a.actors → Rising p.clock (deeds (p.new k)) (v.clock k)
  new_rises v p k k_in = clocked_rises p.clock (v.clock k) (p.new k) (p.clocked k k_in)

  new_high : (v : View A I) (p : Paced v) (k : ℕ) → AllByRecursion (IsHigh p.clock) (entries_of (p.new k))
  new_high v p k = elim (below_or_past k (length a.actors)) [
    | inl k_in ↦ rising_high p.clock p.clock (v.clock k) (p.new k) (omega arith) (new_rises v p k k_in)
    | inr past ↦ subst (λ (ns : List (Noted I)). AllByRecursion (IsHigh p.clock) (entries_of ns)) (sym (new_none v p k past)) tt
  ]

  pub all_timed : (v : View A I) (p : Paced v) → AreTimed p.notes v.clock
  all_timed v p events sorted each = subst (λ (ns : List (Noted I)). Along (IsTimed go) [] ns × StandsAt go (length a.actors) v.clock ns) (sym cut.whole)
      (along_join (IsTimed go) [] cut.first cut.second first.0 second.0, second.1)
    where
      cut : CutAt events p.old p.new
      cut = cut_at p.clock events p.old p.new sorted (λ k. each k ∙ p.split k) p.lows (new_high v p)

      first : Along (IsTimed go) [] cut.first × StandsAt go (length a.actors) (λ k. p.clock) cut.first
      first = p.timed cut.first cut.first_sorted cut.lows

      second : Along (IsTimed go) cut.first cut.second × StandsAt go (length a.actors) v.clock (cut.first ++ cut.second)
      second = piece_timed go (length a.actors) cut.second cut.first (λ k. p.clock) v.clock first.1
          (all_within (length a.actors) cut.second (λ k past. cut.highs k ∙ new_none v p k past))
          (all_noted (λ (n : Noted I). go n.deed.entry ≡ false) cut.second (λ k. subst
          (λ (ns : List (Noted I)). AllByRecursion (λ (n : Noted I). go n.deed.entry ≡ false) ns) (sym (cut.highs k)) (p.no_go k)))
          (λ k k_in. subst (λ (ns : List (Noted I)). Clocked p.clock ns (v.clock k)) (sym (cut.highs k)) (p.clocked k k_in))

  -- no clock is above those of the actors
  all_low : (v : View A I) (p : Paced v) (most : ℕ) → 0 < length a.actors → ((k : ℕ) → k < length a.actors → v.clock k ≤ most) → (k : ℕ)
      → AllByRecursion (IsLow most) (entries_of (p.notes k))
  all_low v p most some bound k = subst (λ (es : List JournalEntry). AllByRecursion (IsLow most) es)
      (sym (ap (λ ns. entries_of ns) (p.split k) ∙ map-append (λ (n : Noted I). n.deed.entry) (p.old k) (p.new k)))
      (all-append (IsLow most) (entries_of (p.old k)) (entries_of (p.new k)) (all_lower p.clock most (entries_of (p.old k)) up (p.lows k)) new_low)
    where
      up : p.clock ≤ most
      up = let l = rising_ends p.clock (v.clock 0) (p.new 0) (new_rises v p 0 some) in omega (arith, l, bound 0 some)

      new_low : AllByRecursion (IsLow most) (entries_of (p.new k))
      new_low = elim (below_or_past k (length a.actors)) [
        | inl k_in ↦ rising_low p.clock (v.clock k) most (p.new k) (bound k k_in) (new_rises v p k k_in)
        | inr past ↦ subst (λ (ns : List (Noted I)). AllByRecursion (IsLow most) (entries_of ns)) (sym (new_none v p k past)) tt
      ]

  -- ---- a round more

  pub paced_round : (u v : View A I) (more : ℕ → List (Noted I)) → Grew part makes u v [] more
      → ((k : ℕ) → AllByRecursion (λ (n : Noted I). go n.deed.entry ≡ false) (more k)) → Paced u → Paced v
  paced_round u v more grew none p = record {
    levels = p.levels ++ [];
    notes = λ k. p.notes k ++ more k;
    grew = grows_on part makes a u v p.levels [] p.notes more p.grew grew;
    clock = p.clock;
    old = p.old;
    new = λ k. p.new k ++ more k;
    split = λ k. ap (λ ns. ns ++ more k) (p.split k) ∙ append_assoc (p.old k) (p.new k) (more k);
    lows = p.lows;
    clocked = λ k k_in. clocked-append p.clock (u.clock k) (v.clock k) (p.new k) (more k) (p.clocked k k_in)
        (grew.clocks k (omega (arith, k_in, p.grew.size)));
    no_go = λ k. all-append (λ (n : Noted I). go n.deed.entry ≡ false) (p.new k) (more k) (p.no_go k) (none k);
    timed = p.timed;
  }

  -- ---- the beginning of a group

  module _ (pauses : A → List (Deed I) → A → Type 0) (u l v : View A I) (k : ℕ) (p : Paced u) (levelled : Levelled u l)
      (did : Between part makes pauses k l v true) (k_in : k < length a.actors) (d : Deed I) (one : did.deeds ≡ d ∷ [])
      (begins : (events : List (Noted I)) → AreSorted (entries_of events) → ((j : ℕ) → noted_by j events ≡ p.notes j) → go d.entry ≡ true) where
    level_size : length l.actors ≡ length a.actors
    level_size = ap (λ (xs : List A). length xs) levelled.only.actors ∙ p.grew.size

    from_is : did.from ≡ levelled.clock
    from_is = sym did.greatest.is ∙ levelled.level did.greatest.here did.greatest.within

    counted : Counted did.from (d ∷ []) did.to
    counted = subst (λ (ds : List (Deed I)). Counted did.from ds did.to) one did.counted

    own : AllByRecursion (IsDeedOf k) (d ∷ [])
    own = subst (λ (ds : List (Deed I)). AllByRecursion (IsDeedOf k) ds) one did.own

    mark : ℕ → List (Noted I)
    mark j = at_mark part makes k did.deeds j

    abbrev beginning : Noted I
    beginning = record { deed = d; stamp = 0 }

    mark_here : (j : ℕ) → j ≡ k → mark j ≡ beginning ∷ []
    unfolding mark
    mark_here j e = (let is : at_mark part makes k did.deeds j ≡ noted 0 did.deeds = grind (arith, nat_tests) in is)
        ∙ ap (λ (ds : List (Deed I)). noted 0 ds) one

    mark_else : (j : ℕ) → j ≢ k → mark j ≡ []
    unfolding mark
    mark_else j ne = grind (arith, nat_tests)

    mark_all : (Q : JournalEntry → Type 0) → Q d.entry → (j : ℕ) → AllByRecursion Q (entries_of (mark j))
    mark_all Q h j = elim (equal_or_not j k) [
      | inl e ↦ subst (λ (ns : List (Noted I)). AllByRecursion Q (entries_of ns)) (sym (mark_here j e)) (h, tt)
      | inr ne ↦ subst (λ (ns : List (Noted I)). AllByRecursion Q (entries_of ns)) (sym (mark_else j ne)) tt
    ]

    abbrev notes_then : ℕ → List (Noted I)
    notes_then j = (p.notes j ++ []) ++ at_mark part makes k did.deeds j

    grew_then : Grew part makes a v ((p.levels ++ levelled.clock ∷ []) ++ did.from ∷ did.to ∷ []) notes_then
    grew_then = grows_on part makes a l v (p.levels ++ levelled.clock ∷ []) (did.from ∷ did.to ∷ []) (λ j. p.notes j ++ []) (at_mark part makes k did.deeds)
        (grows_on part makes a u l p.levels (levelled.clock ∷ []) p.notes (λ j. []) p.grew (level_grows part makes u l levelled))
        (between_grows part makes pauses l v k true (omega (arith, k_in, level_size)) did)

    greatest : IsGreatest (length a.actors) u.clock levelled.clock
    greatest = subst (λ n. IsGreatest n u.clock levelled.clock) p.grew.size levelled.greatest

    lows_at : (j : ℕ) → AllByRecursion (IsLow levelled.clock) (entries_of (p.notes j))
    lows_at = all_low u p levelled.clock (omega (arith, k_in)) greatest.bound

    lows_then : (j : ℕ) → AllByRecursion (IsLow did.to) (entries_of (notes_then j))
    unfolding mark
    lows_then j = subst (λ (es : List JournalEntry). AllByRecursion (IsLow did.to) es)
        (sym (map-append (λ (n : Noted I). n.deed.entry) (p.notes j ++ []) (mark j)
        ∙ ap (λ (ns : List (Noted I)). entries_of ns ++ entries_of (mark j)) (append-nil (p.notes j))))
        (all-append (IsLow did.to) (entries_of (p.notes j)) (entries_of (mark j))
        (all_lower levelled.clock did.to (entries_of (p.notes j)) (omega (arith, from_is, counted.1)) (lows_at j))
        (mark_all (IsLow did.to) (omega (arith, counted.0, counted.1)) j))

    timed_then : AreTimed notes_then (λ j. did.to)
    unfolding mark
    timed_then events sorted each = subst (λ (ns : List (Noted I)). Along (IsTimed go) [] ns × StandsAt go (length a.actors) (λ j. did.to) ns)
        (sym (cut.whole ∙ ap (λ (ns : List (Noted I)). cut.first ++ ns) second_is)) (
          along_join (IsTimed go) [] cut.first (beginning ∷ []) first.0 (second.0, tt),
          subst
              (λ c. StandsAt go (length a.actors) (λ j. c) (cut.first ++ beginning ∷ [])) (counted.0 ∙ sym counted.1) second.1,
        )
      where
        cut : CutAt events p.notes mark
        cut = cut_at levelled.clock events p.notes mark sorted (λ j. each j ∙ ap (λ (ns : List (Noted I)). ns ++ mark j) (append-nil (p.notes j))) lows_at
            (mark_all (IsHigh levelled.clock) (omega (arith, counted.0, from_is)))

        first : Along (IsTimed go) [] cut.first × StandsAt go (length a.actors) u.clock cut.first
        first = all_timed u p cut.first cut.first_sorted cut.lows

        second_is : cut.second ≡ beginning ∷ []
        second_is = sym (all_one k cut.second (λ j ne. cut.highs j ∙ mark_else j ne)) ∙ cut.highs k ∙ mark_here k refl

        second : IsTimed go cut.first beginning × StandsAt go (length a.actors) (λ j. d.entry.clock) (cut.first ++ beginning ∷ [])
        second = go_timed go (length a.actors) levelled.clock u.clock cut.first beginning first.1 greatest (omega (arith, own.0, k_in))
            (begins cut.first cut.first_sorted cut.lows) (counted.0 ∙ ap (λ c. c + 1) from_is)

    pub paced_then : Paced v
    paced_then = record {
      levels = (p.levels ++ levelled.clock ∷ []) ++ did.from ∷ did.to ∷ [];
      notes = notes_then;
      grew = grew_then;
      clock = did.to;
      old = notes_then;
      new = λ j. [];
      split = λ j. sym (append-nil (notes_then j));
      lows = lows_then;
      clocked = λ j j_in. did.level j (omega (arith, j_in, did.size, level_size));
      no_go = λ j. tt;
      timed = timed_then;
    }
