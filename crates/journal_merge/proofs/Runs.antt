-- The merged entries are the run of events.
use Rattle.std.proofs.Common.{◌≡◌, ◌≢◌, ◌≤◌, ◌<◌, ℕ, Bool, true, false, List, [], ◌∷◌, ◌++◌, Option, Some, None, ◌==◌}
use Rattle.std.proofs.Common.{if◌then◌else◌, refl, ap, sym, subst, ◌∙◌, arith, inl, inr, append_assoc, map}
use Rattle.std.specs.List.{AllByRecursion}
use Rattle.std.proofs.lemmas.Bool.Decides.{nat_tests}
use Rattle.std.proofs.lemmas.List.{append_cancel_left, append-nil, map-append}
use Rattle.ring_net.specs.declared.entry.JournalEntry.{JournalEntry}
use Rattle.ring_net.specs.declared.entry.Stamped.{Stamped}
use Rattle.ring_net.specs.Deeds.{Deed, Noted, Makes, Replay, IsLater, items_for, stamped, from_option, puts, gets, sent_to, taken_from, deeds, entries_of}
use Rattle.ring_net.proofs.Replays.{all-append}
use Rattle.journal_merge.specs.Merges.{IsBefore, AreSorted, entries_by}
use Rattle.journal_merge.specs.Worlds.{DeedWorld, SameWorld, taken_of, takes_on, sends_on, DeedStep, DeedRun}
use Rattle.journal_merge.specs.Growth.{noted_by}
use Rattle.journal_merge.proofs.Orders.{equal_or_not, by_here, by_else}

-- ---- lists

map_stamped : {I : Type 0} (c : ℕ) (xs : List I) → map (λ (x : Stamped I). x.item) (stamped c xs) ≡ xs
map_stamped c [] = refl
map_stamped c (x ∷ xs) = ap (λ ys. x ∷ ys) (map_stamped c xs)

stamped_above : {I : Type 0} (low c : ℕ) (xs : List I) → low ≤ c → AllByRecursion (λ (x : Stamped I). low ≤ x.stamp.0) (stamped c xs)
stamped_above low c [] h = tt
stamped_above low c (x ∷ xs) h = (h, stamped_above low c xs h)

-- a taken item stands in the channel: those that are still to be sent have later stamps
head_there : {I : Type 0} (c d taken more : List (Stamped I)) (x : Stamped I) (low : ℕ) → x.stamp.0 < low
    → AllByRecursion (λ (y : Stamped I). low ≤ y.stamp.0) more → c ++ more ≡ (x ∷ taken) ++ d → (rest : List (Stamped I)) × (c ≡ x ∷ rest)
head_there {I = I} [] d taken [] x low lt above e = absurd cc
head_there {I = I} [] d taken (y ∷ more) x low lt above e = absurd (let same : y ≡ x = cc in omega (arith, above.0, ap (λ (z : Stamped I). z.stamp.0) same))
head_there {I = I} (y ∷ c) d taken more x low lt above e = (c, cc)

-- the equation of a channel after one note
carried : {I : Type 0} (g c₀ c put sent taken d : List (Stamped I)) → c ≡ g ++ c₀ → c ++ (put ++ sent) ≡ (g ++ taken) ++ d → (c₀ ++ put) ++ sent ≡ taken ++ d
carried g c₀ c put sent taken d is e = append_cancel_left g ((c₀ ++ put) ++ sent) (taken ++ d)
    (ap (λ x. g ++ x) (append_assoc c₀ put sent) ∙ sym (append_assoc g c₀ (put ++ sent)) ∙ ap (λ x. x ++ (put ++ sent)) (sym is) ∙ e ∙ append_assoc g taken d)

-- a function with another value at one point
abbrev at : {A : Type 0} → (ℕ → A) → ℕ → A → ℕ → A
at f k v n = if n == k then v else f n

abbrev at2 : {A : Type 0} → (ℕ → ℕ → A) → ℕ → ℕ → A → ℕ → ℕ → A
at2 f j k v m n = if m == j then (if n == k then v else f m n) else f m n

at-here : {A : Type 0} (f : ℕ → A) (k : ℕ) (v : A) → at f k v k ≡ v
at-here f k v = grind (arith, nat_tests)

at-else : {A : Type 0} (f : ℕ → A) (k : ℕ) (v : A) (n : ℕ) → n ≢ k → at f k v n ≡ f n
at-else f k v n h = grind (arith, nat_tests)

low_step : (e f : JournalEntry) → IsBefore e f → e.clock ≤ f.clock
low_step e f h = grind arith

module _ {I : Type 0} where
  pub own_here : (a : ℕ) (n : Noted I) (ns : List (Noted I)) → n.deed.entry.actor ≡ a → noted_by a (n ∷ ns) ≡ n ∷ noted_by a ns
  own_here a n ns e = grind (arith, nat_tests)

  pub own_else : (a : ℕ) (n : Noted I) (ns : List (Noted I)) → n.deed.entry.actor ≢ a → noted_by a (n ∷ ns) ≡ noted_by a ns
  own_else a n ns e = grind (arith, nat_tests)

  puts_above : (low b : ℕ) (n : Noted I) → low ≤ n.deed.entry.clock → AllByRecursion (λ (x : Stamped I). low ≤ x.stamp.0) (puts b n)
  puts_above low b n h = stamped_above low n.deed.entry.clock (items_for b n.deed.sent) h

  -- what is sent by notes from this clock on has stamps from this clock on
  sent_above : (low a b : ℕ) (ns : List (Noted I)) → AllByRecursion (λ (n : Noted I). low ≤ n.deed.entry.clock) ns
      → AllByRecursion (λ (x : Stamped I). low ≤ x.stamp.0) (sent_to b (noted_by a ns))
  sent_above low a b [] h = tt
  sent_above low a b (n ∷ ns) h = elim (equal_or_not n.deed.entry.actor a) [
    | inl e ↦ rw (own_here a n ns e)
        (all-append (λ (x : Stamped I). low ≤ x.stamp.0) (puts b n) (sent_to b (noted_by a ns)) (puts_above low b n h.0) (sent_above low a b ns h.1))
    | inr ne ↦ rw (own_else a n ns ne) (sent_above low a b ns h.1)
  ]

  later_rest : (a : ℕ) (n : Noted I) (ns : List (Noted I)) → AllByRecursion IsLater (noted_by a (n ∷ ns)) → AllByRecursion IsLater (noted_by a ns)
  later_rest a n ns h = elim (equal_or_not n.deed.entry.actor a) [
    | inl e ↦ (let k : AllByRecursion IsLater (n ∷ noted_by a ns) = rw (own_here a n ns e) at h in k.1)
    | inr ne ↦ rw (own_else a n ns ne) at h
  ]

  pub later_all : (ns : List (Noted I)) → ((a : ℕ) → AllByRecursion IsLater (noted_by a ns)) → AllByRecursion IsLater ns
  later_all [] h = tt
  later_all (n ∷ ns) h = ((rw (own_here n.deed.entry.actor n ns refl) at (h n.deed.entry.actor)).0, later_all ns (λ a. later_rest a n ns (h a)))

  low_all : (n : Noted I) (ns : List (Noted I)) → AllByRecursion (IsBefore n.deed.entry) (entries_of ns)
      → AllByRecursion (λ (m : Noted I). n.deed.entry.clock ≤ m.deed.entry.clock) ns
  low_all n [] h = tt
  low_all n (m ∷ ms) h = (low_step n.deed.entry m.deed.entry h.0, low_all n ms h.1)

  -- what one note puts from a to b, and what it takes from a to b
  abbrev put_on : Noted I → ℕ → ℕ → List (Stamped I)
  put_on n a b = if a == n.deed.entry.actor then puts b n else []

  abbrev took_off : Noted I → ℕ → ℕ → List (Stamped I)
  took_off n a b = if b == n.deed.entry.actor then gets a n else []

  sent_split : (a b : ℕ) (n : Noted I) (ns : List (Noted I)) → sent_to b (noted_by a (n ∷ ns)) ≡ put_on n a b ++ sent_to b (noted_by a ns)
  sent_split a b n ns = grind (arith, nat_tests)

  taken_split : (a b : ℕ) (n : Noted I) (ns : List (Noted I)) → taken_from a (noted_by b (n ∷ ns)) ≡ took_off n a b ++ taken_from a (noted_by b ns)
  taken_split a b n ns = grind (arith, nat_tests)

  abbrev chans : (ℕ → ℕ → List (Stamped I)) → ℕ → ℕ → List I
  chans c a b = map (λ (x : Stamped I). x.item) (c a b)

  sends_at : (n : Noted I) (c : ℕ → ℕ → List (Stamped I)) (a b : ℕ)
      → map (λ (x : Stamped I). x.item) (c a b ++ put_on n a b) ≡ chans c a b ++ sends_on n.deed a b
  sends_at n c a b = map-append (λ (x : Stamped I). x.item) (c a b) (put_on n a b) ∙ ap (λ ys. chans c a b ++ ys) (by_case (a == n.deed.entry.actor))
    where
      by_case : (t : Bool) → map (λ (x : Stamped I). x.item) (if t then puts b n else []) ≡ (if t then items_for b n.deed.sent else [])
      by_case true = map_stamped n.deed.entry.clock (items_for b n.deed.sent)
      by_case false = refl

  took_items : (a s : ℕ) (t : Option (ℕ × I)) → map (λ (x : Stamped I). x.item) (from_option a s t) ≡ taken_of a t
  took_items a s None = refl
  took_items a s (Some t) = by_case (t.0 == a)
    where
      by_case : (b : Bool)
          → map (λ (x : Stamped I). x.item) (if b then record { stamp = record { 0 = s }; item = t.1 } ∷ [] else []) ≡ (if b then t.1 ∷ [] else [])
      by_case true = refl
      by_case false = refl

  takes_at : (n : Noted I) (a b : ℕ) → map (λ (x : Stamped I). x.item) (took_off n a b) ≡ takes_on n.deed a b
  takes_at n a b = by_case (b == n.deed.entry.actor)
    where
      by_case : (t : Bool) → map (λ (x : Stamped I). x.item) (if t then gets a n else []) ≡ (if t then taken_of a n.deed.taken else [])
      by_case true = took_items a n.stamp n.deed.taken
      by_case false = refl

  -- what the note takes is taken off the channels
  record TakenOff (n : Noted I) (c : ℕ → ℕ → List (Stamped I)) : Type 0 where
    left : ℕ → ℕ → List (Stamped I)
    off : (a b : ℕ) → c a b ≡ took_off n a b ++ left a b

  taken_none : (n : Noted I) (c : ℕ → ℕ → List (Stamped I)) → n.deed.taken ≡ None → TakenOff n c
  taken_none n c e = record { left = c; off = λ a b. grind (arith, nat_tests) }

  taken_some : (n : Noted I) (c : ℕ → ℕ → List (Stamped I)) (f : ℕ) (x : I) (rest : List (Stamped I)) → n.deed.taken ≡ Some (f, x)
      → c f n.deed.entry.actor ≡ record { stamp = record { 0 = n.stamp }; item = x } ∷ rest → TakenOff n c
  taken_some n c f x rest e h = record { left = at2 c f n.deed.entry.actor rest; off = λ a b. off_at a b }
    where
      off_at : (a b : ℕ) → c a b ≡ took_off n a b ++ at2 c f n.deed.entry.actor rest a b
      off_at a b = grind (arith, nat_tests)

  some_head : (n : Noted I) (f : ℕ) (x : I) → n.deed.taken ≡ Some (f, x)
      → took_off n f n.deed.entry.actor ≡ record { stamp = record { 0 = n.stamp }; item = x } ∷ []
  some_head n f x e = grind (arith, nat_tests)

  take_off : (n : Noted I) (ns : List (Noted I)) (c d : ℕ → ℕ → List (Stamped I)) → AreSorted (entries_of (n ∷ ns)) → AllByRecursion IsLater (n ∷ ns)
      → ((a b : ℕ) → c a b ++ sent_to b (noted_by a (n ∷ ns)) ≡ taken_from a (noted_by b (n ∷ ns)) ++ d a b) → TakenOff n c
  take_off n ns c d sorted later carries = by_case n.deed.taken refl
    where
      by_case : (t : Option (ℕ × I)) → n.deed.taken ≡ t → TakenOff n c
      by_case None e = taken_none n c e
      by_case (Some (f, x)) e =
          let me : ℕ = n.deed.entry.actor in
          let h : (rest : List (Stamped I)) × (c f me ≡ record { stamp = record { 0 = n.stamp }; item = x } ∷ rest) =
          head_there (c f me) (d f me) (taken_from f (noted_by me ns)) (sent_to me (noted_by f (n ∷ ns)))
          (record { stamp = record { 0 = n.stamp }; item = x }) n.deed.entry.clock (later.0 (f, x) e)
          (sent_above n.deed.entry.clock f me (n ∷ ns) (omega arith, low_all n ns sorted.0))
          (carries f me ∙ ap (λ y. y ++ d f me) (taken_split f me n ns ∙ ap (λ y. y ++ taken_from f (noted_by me ns)) (some_head n f x e))) in
          taken_some n c f x (h.0) e (h.1)

module _ {P I : Type 0} (makes : Makes P I) where
  -- a run to these parts and channels
  pub record Ends (w : DeedWorld P I) (ns : List (Noted I)) (q : ℕ → P) (d : ℕ → ℕ → List (Stamped I)) : Type 0 where
    pub last : DeedWorld P I
    pub run : DeedRun makes w (deeds ns) last
    pub parts : (k : ℕ) → last.part k ≡ q k
    pub channels : (a b : ℕ) → last.channel a b ≡ map (λ (x : Stamped I). x.item) (d a b)

  -- the world after one note
  abbrev next : (w : DeedWorld P I) (n : Noted I) (left : ℕ → ℕ → List (Stamped I)) → P → DeedWorld P I
  next w n left m = record { part = at w.part n.deed.entry.actor m; channel = λ a b. map (λ (x : Stamped I). x.item) (left a b ++ put_on n a b) }

  step : (w : DeedWorld P I) (n : Noted I) (c : ℕ → ℕ → List (Stamped I)) (t : TakenOff n c) (m : P)
      → ((a b : ℕ) → w.channel a b ≡ map (λ (x : Stamped I). x.item) (c a b))
      → makes n.deed.entry.actor (w.part n.deed.entry.actor) n.deed.entry n.deed.taken n.deed.sent m → DeedStep makes w n.deed (next w n t.left m)
  step w n c t m channels makes_it = record {
    made = rw (at-here w.part n.deed.entry.actor m) makes_it;
    others = λ k ne. at-else w.part n.deed.entry.actor m k ne;
    rest = chans t.left;
    takes = λ a b. channels a b ∙ ap (λ xs. map (λ (x : Stamped I). x.item) xs) (t.off a b)
        ∙ map-append (λ (x : Stamped I). x.item) (took_off n a b) (t.left a b) ∙ ap (λ xs. xs ++ chans t.left a b) (takes_at n a b);
    sends = λ a b. sends_at n t.left a b;
  }

  replayed : (n : Noted I) (ns : List (Noted I)) (p q : ℕ → P) (m : P) (a : ℕ)
      → Replay makes n.deed.entry.actor m (deeds (noted_by n.deed.entry.actor ns)) (q n.deed.entry.actor)
      → Replay makes a (p a) (deeds (noted_by a (n ∷ ns))) (q a) → Replay makes a (at p n.deed.entry.actor m a) (deeds (noted_by a ns)) (q a)
  replayed n ns p q m a mine other = elim (equal_or_not a n.deed.entry.actor) [
    | inl e ↦ subst (λ x. Replay makes x (at p n.deed.entry.actor m x) (deeds (noted_by x ns)) (q x)) (sym e) (rw (at-here p n.deed.entry.actor m) mine)
    | inr ne ↦ rw (at-else p n.deed.entry.actor m a ne) (rw (own_else a n ns (λ e. ne (sym e))) at other)
  ]

  carried_on : (n : Noted I) (ns : List (Noted I)) (c d : ℕ → ℕ → List (Stamped I)) (t : TakenOff n c) (a b : ℕ)
      → c a b ++ sent_to b (noted_by a (n ∷ ns)) ≡ taken_from a (noted_by b (n ∷ ns)) ++ d a b
      → (t.left a b ++ put_on n a b) ++ sent_to b (noted_by a ns) ≡ taken_from a (noted_by b ns) ++ d a b
  carried_on n ns c d t a b e =
      carried (took_off n a b) (t.left a b) (c a b) (put_on n a b) (sent_to b (noted_by a ns)) (taken_from a (noted_by b ns)) (d a b) (t.off a b)
      (ap (λ x. c a b ++ x) (sym (sent_split a b n ns)) ∙ e ∙ ap (λ x. x ++ d a b) (taken_split a b n ns))

  -- each note stands where its actor can make it
  pub ends : (ns : List (Noted I)) (w : DeedWorld P I) (q : ℕ → P) (c d : ℕ → ℕ → List (Stamped I)) → AreSorted (entries_of ns) → AllByRecursion IsLater ns
      → ((a b : ℕ) → w.channel a b ≡ map (λ (x : Stamped I). x.item) (c a b))
      → ((a : ℕ) → Replay makes a (w.part a) (deeds (noted_by a ns)) (q a))
      → ((a b : ℕ) → c a b ++ sent_to b (noted_by a ns) ≡ taken_from a (noted_by b ns) ++ d a b)
      → Ends w ns q d
  ends [] w q c d sorted later channels replays carries = record {
    last = w;
    run = record { parts = λ k. refl; channels = λ a b. refl };
    parts = λ k. sym (replays k);
    channels = λ a b. channels a b ∙ ap (λ xs. map (λ (x : Stamped I). x.item) xs) (sym (append-nil (c a b)) ∙ carries a b);
  }
  ends (n ∷ ns) w q c d sorted later channels replays carries =
      let me : ℕ = n.deed.entry.actor in
      let mine : Replay makes me (w.part me) (deeds (n ∷ noted_by me ns)) (q me) = rw (own_here me n ns refl) at (replays me) in
      let t : TakenOff n c = take_off n ns c d sorted later carries in
      let o : Ends (next w n t.left (mine.0)) ns q d = ends ns (next w n t.left (mine.0)) q (λ a b. t.left a b ++ put_on n a b) d sorted.1 later.1 (λ a b. refl)
      (λ a. replayed n ns w.part q (mine.0) a (mine.2) (replays a)) (λ a b. carried_on n ns c d t a b (carries a b)) in
      record { last = o.last; run = (next w n t.left (mine.0), step w n c t (mine.0) channels (mine.1), o.run); parts = o.parts; channels = o.channels }

  -- a run begins in any world with the same parts and channels
  run_same : (w m v : DeedWorld P I) (ds : List (Deed I)) → SameWorld w m → DeedRun makes m ds v → DeedRun makes w ds v
  run_same w m v [] s r = record { parts = λ k. r.parts k ∙ s.parts k; channels = λ a b. r.channels a b ∙ s.channels a b }
  run_same w m v (d ∷ ds) s r = (
    r.0,
    record {
      made = subst (λ p. makes d.entry.actor p d.entry d.taken d.sent (r.0.part d.entry.actor)) (s.parts d.entry.actor) r.1.made;
      others = λ k ne. r.1.others k ne ∙ s.parts k;
      rest = r.1.rest;
      takes = λ a b. sym (s.channels a b) ∙ r.1.takes a b;
      sends = r.1.sends;
    },
    r.2,
  )

  pub run-append : (w m v : DeedWorld P I) (ds es : List (Deed I)) → DeedRun makes w ds m → DeedRun makes m es v → DeedRun makes w (ds ++ es) v
  run-append w m v [] es h k = run_same w m v es h k
  run-append w m v (d ∷ ds) es h k = (h.0, h.1, run-append (h.0) m v ds es h.2 k)

-- ---- the merged entries are those of notes

module _ {I : Type 0} where
  pub record Lift (j : ℕ → List (Noted I)) (es : List JournalEntry) : Type 0 where
    pub notes : List (Noted I)
    pub same : entries_of notes ≡ es
    pub all : (a : ℕ) → noted_by a notes ≡ j a

  no_notes : (ns : List (Noted I)) → [] ≡ entries_of ns → [] ≡ ns
  no_notes [] h = refl
  no_notes (n ∷ ns) h = absurd cc

  rest_entries : (a : ℕ) (n : Noted I) (rest : List (Noted I)) (j : ℕ → List (Noted I)) (e : JournalEntry) (es : List JournalEntry)
      → entries_by e.actor es ≡ entries_of rest → entries_by a (e ∷ es) ≡ entries_of (j a) → entries_by a es ≡ entries_of (at j e.actor rest a)
  rest_entries a n rest j e es mine other = elim (equal_or_not a e.actor) [
    | inl s ↦ subst (λ x. entries_by x es ≡ entries_of (at j e.actor rest x)) (sym s) (mine ∙ ap (λ xs. entries_of xs) (sym (at-here j e.actor rest)))
    | inr ne ↦ sym (by_else a e es (λ s. ne (sym s))) ∙ other ∙ ap (λ xs. entries_of xs) (sym (at-else j e.actor rest a ne))
  ]

  own_again : (a : ℕ) (n : Noted I) (rest ns : List (Noted I)) (j : ℕ → List (Noted I)) (e : JournalEntry) → n.deed.entry ≡ e → j e.actor ≡ n ∷ rest
      → noted_by a ns ≡ at j e.actor rest a → noted_by a (n ∷ ns) ≡ j a
  own_again a n rest ns j e is head all = elim (equal_or_not a e.actor) [
    | inl s ↦ own_here a n ns (ap (λ (x : JournalEntry). x.actor) is ∙ sym s)
        ∙ ap (λ xs. n ∷ xs) (all ∙ ap (λ x. at j e.actor rest x) s ∙ at-here j e.actor rest) ∙ sym head ∙ ap j (sym s)
    | inr ne ↦ own_else a n ns (λ s. ne (sym s ∙ ap (λ (x : JournalEntry). x.actor) is)) ∙ all ∙ at-else j e.actor rest a ne
  ]

  head_of : (e : JournalEntry) (es : List JournalEntry) (ns : List (Noted I)) → e ∷ es ≡ entries_of ns
      → (n : Noted I) × (rest : List (Noted I)) × (ns ≡ n ∷ rest) × (n.deed.entry ≡ e) × (es ≡ entries_of rest)
  head_of e es [] h = absurd cc
  head_of e es (n ∷ ns) h = (n, ns, refl, cc, cc)

  pub lift : (es : List JournalEntry) (j : ℕ → List (Noted I)) → ((a : ℕ) → entries_by a es ≡ entries_of (j a)) → Lift j es
  lift [] j h = record { notes = []; same = refl; all = λ a. no_notes (j a) (h a) }
  lift (e ∷ es) j h =
      let x = head_of e (entries_by e.actor es) (j e.actor) (sym (by_here e.actor e es refl) ∙ h e.actor) in
      let o : Lift (at j e.actor (x.1)) es = lift es (at j e.actor (x.1)) (λ a. rest_entries a (x.0) (x.1) j e es (x.4) (h a)) in
      record { notes = x.0 ∷ o.notes; same = both (x.3) o.same; all = λ a. own_again a (x.0) (x.1) o.notes j e (x.3) (x.2) (o.all a) }
    where
      both : {A : Type 0} {x y : A} {xs ys : List A} → x ≡ y → xs ≡ ys → x ∷ xs ≡ y ∷ ys
      both e f = cc
