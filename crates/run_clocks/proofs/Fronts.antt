-- Exact clocks, by what stands in front of an event.
use Rattle.std.proofs.Common.{◌≡◌, ◌≢◌, ◌≤◌, ◌<◌, ◌+◌, ℕ, max, Bool, true, false, List, [], ◌∷◌, ◌++◌, ◌==◌, ◌||◌}
use Rattle.std.proofs.Common.{if◌then◌else◌, refl, ap, sym, subst, ◌∙◌, arith, inl, inr, append_assoc}
use Rattle.std.specs.Prelude.{Option, Some, None}
use Rattle.std.specs.List.{AllByRecursion}
use Rattle.std.proofs.lemmas.Bool.Decides.{nat_tests}
use Rattle.std.proofs.lemmas.List.{append-nil}
use Rattle.ring_net.specs.declared.entry.JournalEntry.{JournalEntry}
use Rattle.ring_net.specs.Deeds.{Noted, met, Clocked}
use Rattle.ring_net.specs.Phases.{IsGreatest}
use Rattle.ring_net.proofs.Replays.{all-append}
use Rattle.journal_merge.specs.Growth.{noted_by}
use Rattle.journal_merge.proofs.Orders.{equal_or_not}
use Rattle.journal_merge.proofs.Runs.{own_here, own_else}

-- ---- along a list

module _ {X : Type 0} (P : List X → X → Type 0) where
  -- this holds of each element, with what stands in front of it
  abbrev pub Along : List X → List X → Type 0
  Along front [] = Unit {0}
  Along front (x ∷ xs) = P front x × Along (front ++ x ∷ []) xs

  pub along_join : (front xs ys : List X) → Along front xs → Along (front ++ xs) ys → Along front (xs ++ ys)
  along_join front [] ys h k = subst (λ zs. Along zs ys) (append-nil front) k
  along_join front (x ∷ xs) ys h k = (h.0, along_join (front ++ x ∷ []) xs ys h.1 (subst (λ zs. Along zs ys) (sym (append_assoc front (x ∷ []) xs)) k))

  pub along_at : (front xs ys : List X) (x : X) → Along front (xs ++ x ∷ ys) → P (front ++ xs) x
  along_at front [] ys x h = subst (λ zs. P zs x) (sym (append-nil front)) h.0
  along_at front (y ∷ xs) ys x h = subst (λ zs. P zs x) (append_assoc front (y ∷ []) xs) (along_at (front ++ y ∷ []) xs ys x h.1)

-- ---- clocks in front

module _ {I : Type 0} (go : JournalEntry → Bool) where
  -- the greatest clock
  abbrev pub top : List (Noted I) → ℕ
  top [] = 0
  top (n ∷ ns) = max n.deed.entry.clock (top ns)

  -- the greatest clock of one actor's events, and of those that begin groups
  abbrev pub behind : ℕ → List (Noted I) → ℕ
  behind k [] = 0
  behind k (n ∷ ns) = if n.deed.entry.actor == k || go n.deed.entry then max n.deed.entry.clock (behind k ns) else behind k ns

  -- the clock follows from those in front
  abbrev pub IsTimed : List (Noted I) → Noted I → Type 0
  IsTimed front n = n.deed.entry.clock ≡ (if go n.deed.entry then top front else met (behind n.deed.entry.actor front) n.stamp n.deed.taken) + 1

  -- the events are of the first actors, and these have the clocks
  pub record StandsAt (size : ℕ) (c : ℕ → ℕ) (front : List (Noted I)) : Type 0 where
    pub within : AllByRecursion (λ (n : Noted I). n.deed.entry.actor < size) front
    pub at : (k : ℕ) → k < size → behind k front ≡ c k

  behind_more : (k : ℕ) (front : List (Noted I)) (n : Noted I) → behind k (front ++ n ∷ []) ≡
      (if n.deed.entry.actor == k || go n.deed.entry then max (behind k front) n.deed.entry.clock else behind k front)
  behind_more k [] n = by_case (n.deed.entry.actor == k || go n.deed.entry)
    where
      by_case : (t : Bool) → (if t then max n.deed.entry.clock 0 else 0) ≡ (if t then max 0 n.deed.entry.clock else 0)
      by_case true = omega arith
      by_case false = refl
  behind_more k (m ∷ front) n = ap (λ b. if m.deed.entry.actor == k || go m.deed.entry then max m.deed.entry.clock b else b) (behind_more k front n)
      ∙ by_case (m.deed.entry.actor == k || go m.deed.entry) (n.deed.entry.actor == k || go n.deed.entry)
    where
      by_case : (s t : Bool) → (if s then max m.deed.entry.clock (if t then max (behind k front) n.deed.entry.clock else behind k front) else
          (if t then max (behind k front) n.deed.entry.clock else behind k front))
          ≡ (if t then max (if s then max m.deed.entry.clock (behind k front) else behind k front) n.deed.entry.clock else
          (if s then max m.deed.entry.clock (behind k front) else behind k front))
      by_case true true = omega arith
      by_case true false = refl
      by_case false true = refl
      by_case false false = refl

  counted : (k : ℕ) (front : List (Noted I)) (n : Noted I) → (n.deed.entry.actor == k || go n.deed.entry) ≡ true
      → behind k (front ++ n ∷ []) ≡ max (behind k front) n.deed.entry.clock
  counted k front n is = behind_more k front n ∙ ap (λ (t : Bool). if t then max (behind k front) n.deed.entry.clock else behind k front) is

  not_counted : (k : ℕ) (front : List (Noted I)) (n : Noted I) → (n.deed.entry.actor == k || go n.deed.entry) ≡ false
      → behind k (front ++ n ∷ []) ≡ behind k front
  not_counted k front n is = behind_more k front n ∙ ap (λ (t : Bool). if t then max (behind k front) n.deed.entry.clock else behind k front) is

  mine : (k : ℕ) (n : Noted I) → n.deed.entry.actor ≡ k → (n.deed.entry.actor == k || go n.deed.entry) ≡ true
  mine k n e = or_true (n.deed.entry.actor == k) (go n.deed.entry) (same n.deed.entry.actor k e)
    where
      same : (m j : ℕ) → m ≡ j → (m == j) ≡ true
      same m j e = grind (arith, nat_tests)

      or_true : (s t : Bool) → s ≡ true → (s || t) ≡ true
      or_true true t e = refl
      or_true false t e = absurd cc

  others : (k : ℕ) (n : Noted I) → n.deed.entry.actor ≢ k → go n.deed.entry ≡ false → (n.deed.entry.actor == k || go n.deed.entry) ≡ false
  others k n ne e = or_false (n.deed.entry.actor == k) (go n.deed.entry) (apart n.deed.entry.actor k ne) e
    where
      apart : (m j : ℕ) → m ≢ j → (m == j) ≡ false
      apart m j ne = grind (arith, nat_tests)

      or_false : (s t : Bool) → s ≡ false → t ≡ false → (s || t) ≡ false
      or_false false t e f = f
      or_false true t e f = absurd cc

  begun : (k : ℕ) (n : Noted I) → go n.deed.entry ≡ true → (n.deed.entry.actor == k || go n.deed.entry) ≡ true
  begun k n e = or_true (n.deed.entry.actor == k) (go n.deed.entry) e
    where
      or_true : (s t : Bool) → t ≡ true → (s || t) ≡ true
      or_true true t e = refl
      or_true false t e = e

  -- ---- a piece without the beginning of a group

  met_above : (c stamp : ℕ) (taken : Option (ℕ × I)) → c ≤ met c stamp taken
  met_above c stamp None = omega arith
  met_above c stamp (Some x) = omega arith

  abbrev now : (ℕ → ℕ) → Noted I → ℕ → ℕ
  now c n k = if n.deed.entry.actor == k then n.deed.entry.clock else c k

  now_here : (c : ℕ → ℕ) (n : Noted I) (k : ℕ) → n.deed.entry.actor ≡ k → now c n k ≡ n.deed.entry.clock
  now_here c n k e = grind (arith, nat_tests)

  now_else : (c : ℕ → ℕ) (n : Noted I) (k : ℕ) → n.deed.entry.actor ≢ k → now c n k ≡ c k
  now_else c n k ne = grind (arith, nat_tests)

  -- one event more
  stands_more : (size : ℕ) (c : ℕ → ℕ) (front : List (Noted I)) (n : Noted I) → StandsAt size c front → n.deed.entry.actor < size → go n.deed.entry ≡ false
      → c n.deed.entry.actor < n.deed.entry.clock → StandsAt size (now c n) (front ++ n ∷ [])
  stands_more size c front n stands below none more = record {
    within = all-append (λ (m : Noted I). m.deed.entry.actor < size) front (n ∷ []) stands.within (below, tt);
    at = λ k k_in. elim (equal_or_not n.deed.entry.actor k) [
      | inl e ↦ counted k front n (mine k n e) ∙ (let l : behind k front ≡ c k = stands.at k k_in in let m : c k < n.deed.entry.clock = subst
          (λ j. c j < n.deed.entry.clock) e more in
          let is : max (behind k front) n.deed.entry.clock ≡ n.deed.entry.clock = omega (arith, l, m) in is) ∙ sym (now_here c n k e)
      | inr ne ↦ not_counted k front n (others k n ne none) ∙ stands.at k k_in ∙ sym (now_else c n k ne)
    ];
  }

  -- events whose clocks are exact, each actor's from the clock where it stands on
  pub piece_timed : (size : ℕ) (events front : List (Noted I)) (c d : ℕ → ℕ) → StandsAt size c front
      → AllByRecursion (λ (n : Noted I). n.deed.entry.actor < size) events → AllByRecursion (λ (n : Noted I). go n.deed.entry ≡ false) events
      → ((k : ℕ) → k < size → Clocked (c k) (noted_by k events) (d k)) → Along IsTimed front events × StandsAt size d (front ++ events)
  piece_timed size [] front c d stands within none clocked = (
    tt,
    subst (λ zs. StandsAt size d zs) (sym (append-nil front)) (record { within = stands.within; at = λ k k_in. stands.at k k_in ∙ sym (clocked k k_in) }),
  )
  piece_timed size (n ∷ events) front c d stands within none clocked =
      let me : ℕ = n.deed.entry.actor in
      let own : Clocked (c me) (n ∷ noted_by me events) (d me) = subst (λ xs. Clocked (c me) xs (d me)) (own_here me n events refl) (clocked me within.0) in
      let more : c me < n.deed.entry.clock = omega (arith, own.0, met_above (c me) n.stamp n.deed.taken) in
      let timed : IsTimed front n = own.0 ∙ ap (λ b. met b n.stamp n.deed.taken + 1) (sym (stands.at me within.0))
      ∙ ap (λ (t : Bool). (if t then top front else met (behind me front) n.stamp n.deed.taken) + 1) (sym none.0) in
      let rest : Along IsTimed (front ++ n ∷ []) events × StandsAt size d ((front ++ n ∷ []) ++ events) =
      piece_timed size events (front ++ n ∷ []) (now c n) d (stands_more size c front n stands within.0 none.0 more) within.1 none.1 (later own) in
      ((timed, rest.0), subst (λ zs. StandsAt size d zs) (append_assoc front (n ∷ []) events) rest.1)
    where
      later : Clocked (c n.deed.entry.actor) (n ∷ noted_by n.deed.entry.actor events) (d n.deed.entry.actor) → (k : ℕ) → k < size
          → Clocked (now c n k) (noted_by k events) (d k)
      later own k k_in = elim (equal_or_not n.deed.entry.actor k) [
        | inl e ↦ subst (λ j. Clocked (now c n j) (noted_by j events) (d j)) e (rw (now_here c n n.deed.entry.actor refl) own.1)
        | inr ne ↦ rw (now_else c n k ne) (subst (λ xs. Clocked (c k) xs (d k)) (own_else k n events ne) (clocked k k_in))
      ]

  -- ---- the beginning of a group

  below_top : (k : ℕ) (front : List (Noted I)) → behind k front ≤ top front
  below_top k [] = omega arith
  below_top k (n ∷ front) = by_case (n.deed.entry.actor == k || go n.deed.entry) (below_top k front)
    where
      by_case : (t : Bool) → behind k front ≤ top front → (if t then max n.deed.entry.clock (behind k front) else behind k front) ≤ max n.deed.entry.clock
          (top front)
      by_case true l = omega (arith, l)
      by_case false l = omega (arith, l)

  behind_less : (k : ℕ) (n : Noted I) (front : List (Noted I)) → behind k front ≤ behind k (n ∷ front)
  behind_less k n front = by_case (n.deed.entry.actor == k || go n.deed.entry)
    where
      by_case : (t : Bool) → behind k front ≤ (if t then max n.deed.entry.clock (behind k front) else behind k front)
      by_case true = omega arith
      by_case false = omega arith

  behind_first : (n : Noted I) (front : List (Noted I)) → n.deed.entry.clock ≤ behind n.deed.entry.actor (n ∷ front)
  behind_first n front = rw (mine n.deed.entry.actor n refl) (omega arith)

  top_bound : (size most : ℕ) (front : List (Noted I)) → AllByRecursion (λ (n : Noted I). n.deed.entry.actor < size) front
      → ((k : ℕ) → k < size → behind k front ≤ most) → top front ≤ most
  top_bound size most [] within bound = omega arith
  top_bound size most (n ∷ front) within bound =
      let l : top front ≤ most = top_bound size most front within.1 (λ k k_in.
      (let a = behind_less k n front in let b = bound k k_in in omega (arith, a, b))) in
      let m : n.deed.entry.clock ≤ most = (let a = behind_first n front in let b = bound n.deed.entry.actor within.0 in omega (arith, a, b)) in
      omega (arith, l, m)

  top_is : (size most : ℕ) (c : ℕ → ℕ) (front : List (Noted I)) → StandsAt size c front → IsGreatest size c most → top front ≡ most
  top_is size most c front stands greatest =
      let over : top front ≤ most = top_bound size most front stands.within (λ k k_in.
      (let a = stands.at k k_in in let b = greatest.bound k k_in in omega (arith, a, b))) in
      let under : behind greatest.here front ≤ top front = below_top greatest.here front in
      omega (arith, over, under, stands.at greatest.here greatest.within, greatest.is)

  pub go_timed : (size most : ℕ) (c : ℕ → ℕ) (front : List (Noted I)) (n : Noted I) → StandsAt size c front → IsGreatest size c most
      → n.deed.entry.actor < size → go n.deed.entry ≡ true → n.deed.entry.clock ≡ most + 1
      → IsTimed front n × StandsAt size (λ k. n.deed.entry.clock) (front ++ n ∷ [])
  go_timed size most c front n stands greatest below go_is clock = (
    clock ∙ ap (λ m. m + 1) (sym (top_is size most c front stands greatest))
        ∙ ap (λ (t : Bool). (if t then top front else met (behind n.deed.entry.actor front) n.stamp n.deed.taken) + 1) (sym go_is),
    record {
      within = all-append (λ (m : Noted I). m.deed.entry.actor < size) front (n ∷ []) stands.within (below, tt);
      at = λ k k_in. counted k front n (begun k n go_is) ∙ (let l : behind k front ≡ c k = stands.at k k_in in let m : c k ≤ most = greatest.bound k k_in in
          let is : max (behind k front) n.deed.entry.clock ≡ n.deed.entry.clock = omega (arith, l, m, clock) in is);
    },
  )
