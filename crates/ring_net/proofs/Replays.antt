-- Events after events.
use Rattle.std.proofs.Common.{◌≡◌, ◌≤◌, ◌+◌, ℕ, max, map, List, [], ◌∷◌, ◌++◌, Option, Some, None, ◌==◌, if◌then◌else◌, refl, ap, sym, subst, arith}
use Rattle.std.specs.List.{AllByRecursion}
use Rattle.std.proofs.lemmas.Bool.Decides.{nat_tests}
use Rattle.ring_net.specs.declared.entry.Stamped.{Stamped}
use Rattle.ring_net.specs.Deeds.{Deed, Noted, Makes, Replay, IsLater, TakesNone, TakesFirst, Counted, met, Clocked, Rising, Climbs}
use Rattle.ring_net.specs.Deeds.{ClimbsTo, deeds, noted, entries_of, puts_by, senders, sent_by, sent_to, taken_from}

pub all-append : {A : Type 0} (Q : A → Type 0) (xs ys : List A) → AllByRecursion Q xs → AllByRecursion Q ys → AllByRecursion Q (xs ++ ys)
all-append Q [] ys h k = k
all-append Q (x ∷ xs) ys h k = (h.0, all-append Q xs ys h.1 k)

pub climbs-append : (low mid high : ℕ) (xs ys : List ℕ) → ClimbsTo low xs mid → ClimbsTo mid ys high → ClimbsTo low (xs ++ ys) high
climbs-append low mid high [] ys h k = lower low mid high ys h k
  where
    lower : (low mid high : ℕ) (ys : List ℕ) → low ≤ mid → ClimbsTo mid ys high → ClimbsTo low ys high
    lower low mid high [] h k = omega (arith, h, k)
    lower low mid high (y ∷ ys) h k = (omega (arith, h, k.0), k.1)
climbs-append low mid high (x ∷ xs) ys h k = (h.0, climbs-append x mid high xs ys h.1 k)

pub climbs : (low high : ℕ) (xs : List ℕ) → ClimbsTo low xs high → Climbs low xs
climbs low high [] h = tt
climbs low high (x ∷ xs) h = (h.0, climbs x high xs h.1)

-- items of one sender
pub climbs_one : (low a high : ℕ) (xs : List ℕ) → low ≤ a → a ≤ high → AllByRecursion (λ s. s ≡ a) xs → ClimbsTo low xs high
climbs_one low a high [] l h all = omega (arith, l, h)
climbs_one low a high (x ∷ xs) l h all = (omega (arith, l, all.0), climbs_one x a high xs (omega (arith, all.0)) h all.1)

module _ {P I : Type 0} (makes : Makes P I) where
  pub replay-append : (a : ℕ) (p q r : P) (xs ys : List (Deed I)) → Replay makes a p xs q → Replay makes a q ys r → Replay makes a p (xs ++ ys) r
  replay-append a p q r [] ys h k = subst (λ x. Replay makes a x ys r) h k
  replay-append a p q r (x ∷ xs) ys h k = (h.0, h.1, replay-append a (h.0) q r xs ys (h.2) k)

module _ {I : Type 0} where
  pub deeds_noted : (s : ℕ) (ds : List (Deed I)) → deeds (noted s ds) ≡ ds
  deeds_noted s [] = refl
  deeds_noted s (d ∷ ds) = ap (λ xs. d ∷ xs) (deeds_noted s ds)

  pub entries_noted : (s : ℕ) (ds : List (Deed I)) → entries_of (noted s ds) ≡ map (λ (d : Deed I). d.entry) ds
  entries_noted s [] = refl
  entries_noted s (d ∷ ds) = ap (λ xs. d.entry ∷ xs) (entries_noted s ds)

  pub sent_noted : (b s : ℕ) (ds : List (Deed I)) → sent_to b (noted s ds) ≡ sent_by b ds
  sent_noted b s [] = refl
  sent_noted b s (d ∷ ds) = ap (λ xs. puts_by b d ++ xs) (sent_noted b s ds)

  pub entries_deeds : (ns : List (Noted I)) → map (λ (d : Deed I). d.entry) (deeds ns) ≡ entries_of ns
  entries_deeds [] = refl
  entries_deeds (n ∷ ns) = ap (λ xs. n.deed.entry ∷ xs) (entries_deeds ns)

  -- ---- clocks

  pub clocked-append : (c d e : ℕ) (ns ms : List (Noted I)) → Clocked c ns d → Clocked d ms e → Clocked c (ns ++ ms) e
  clocked-append c d e [] ms h k = subst (λ x. Clocked x ms e) h k
  clocked-append c d e (n ∷ ns) ms h k = (h.0, clocked-append n.deed.entry.clock d e ns ms h.1 k)

  pub clocked_none : (c d s : ℕ) (ds : List (Deed I)) → AllByRecursion TakesNone ds → Counted c ds d → Clocked c (noted s ds) d
  clocked_none c d s [] h k = k
  clocked_none c d s (x ∷ xs) h k = (rw (h.0) k.0, subst (λ n. Clocked n (noted s xs) d) (sym k.0) (clocked_none (c + 1) d s xs h.1 k.1))

  pub clocked_first : (c d s from : ℕ) (x : I) (ds : List (Deed I)) → TakesFirst from x ds → Counted (max c s) ds d → Clocked c (noted s ds) d
  clocked_first c d s from x [] h k = absurd h
  clocked_first c d s from x (y ∷ ys) h k = (rw (h.0) k.0, subst (λ n. Clocked n (noted s ys) d) (sym k.0) (clocked_none (max c s + 1) d s ys h.1 k.1))

  met_above : (c s : ℕ) (t : Option (ℕ × I)) → c ≤ met c s t
  met_above c s None = omega arith
  met_above c s (Some x) = omega arith

  pub clocked_rises : (c d : ℕ) (ns : List (Noted I)) → Clocked c ns d → Rising c (deeds ns) d
  clocked_rises c d [] h = omega (arith, h)
  clocked_rises c d (n ∷ ns) h = (omega (arith, h.0, met_above c n.stamp n.deed.taken), clocked_rises n.deed.entry.clock d ns h.1)

  pub clocked_later : (c d : ℕ) (ns : List (Noted I)) → Clocked c ns d → AllByRecursion IsLater ns
  clocked_later c d [] h = tt
  clocked_later c d (n ∷ ns) h =
      (λ x e. (let k : n.deed.entry.clock ≡ max c n.stamp + 1 = rw e at h.0 in omega (arith, k)), clocked_later n.deed.entry.clock d ns h.1)

  weaker : (b c : ℕ) (ds : List (Deed I)) (e : ℕ) → b ≤ c → Rising c ds e → Rising b ds e
  weaker b c [] e l h = omega (arith, l, h)
  weaker b c (d ∷ ds) e l h = (omega (arith, l, h.0), h.1)

  pub rising-append : (b c d e : ℕ) (xs ys : List (Deed I)) → Rising b xs c → c ≤ d → Rising d ys e → Rising b (xs ++ ys) e
  rising-append b c d e [] ys h l k = weaker b d ys e (omega (arith, h, l)) k
  rising-append b c d e (x ∷ xs) ys h l k = (h.0, rising-append x.entry.clock c d e xs ys h.1 l k)

  pub rising_counted : (c d : ℕ) (ds : List (Deed I)) → Counted c ds d → Rising c ds d
  rising_counted c d [] h = omega (arith, h)
  rising_counted c d (x ∷ xs) h = (omega (arith, h.0), subst (λ k. Rising k xs d) (sym h.0) (rising_counted (c + 1) d xs h.1))

  pub none_taken : (a s : ℕ) (ds : List (Deed I)) → AllByRecursion TakesNone ds → taken_from a (noted s ds) ≡ []
  none_taken a s [] h = refl
  none_taken a s (d ∷ ds) h = rw (h.0) (none_taken a s ds h.1)

  pub first_taken : (from s : ℕ) (x : I) (ds : List (Deed I)) → TakesFirst from x ds
      → taken_from from (noted s ds) ≡ record { stamp = record { 0 = s }; item = x } ∷ []
  first_taken from s x [] h = absurd h
  first_taken from s x (d ∷ ds) h = rw (h.0, none_taken from s ds h.1) (here from s x)
    where
      here : (from s : ℕ) (x : I) → let y : Stamped I = record { stamp = record { 0 = s }; item = x } in (if from == from then y ∷ [] else []) ++ [] ≡ y ∷ []
      here from s x = grind (arith, nat_tests)

  none_senders : (a : ℕ) (ds : List (Deed I)) → AllByRecursion TakesNone ds → AllByRecursion (λ s. s ≡ a) (senders ds)
  none_senders a [] h = tt
  none_senders a (d ∷ ds) h = rw (h.0) (none_senders a ds h.1)

  pub first_senders : (from : ℕ) (x : I) (ds : List (Deed I)) → TakesFirst from x ds → AllByRecursion (λ s. s ≡ from) (senders ds)
  first_senders from x [] h = absurd h
  first_senders from x (d ∷ ds) h = rw (h.0) (refl, none_senders from ds h.1)
