-- Exact clocks over pieces that follow one another.
use Rattle.std.proofs.Common.{◌≡◌, ◌<◌, ℕ, List, [], ◌∷◌, ◌++◌, ap, sym, subst, ◌∙◌, append_assoc}
use Rattle.std.specs.List.{AllByRecursion}
use Rattle.ring_net.specs.Deeds.{Noted, IsLater, Clocked, Rising, deeds}
use Rattle.ring_net.proofs.Replays.{all-append, clocked-append, clocked_rises, clocked_later, rising-append}
use Rattle.ring_net.proofs.Takes.{deeds_both}
use Rattle.journal_merge.specs.Growth.{ClockedOver}

module _ {I : Type 0} where
  pub over_notes : (n : ℕ) (c : ℕ → ℕ) (ls : List ℕ) (ns ms : ℕ → List (Noted I)) (d : ℕ → ℕ) → ((k : ℕ) → ms k ≡ ns k) → ClockedOver n c ls ns d
      → ClockedOver n c ls ms d
  over_notes n c [] ns ms d e h = λ k k_in. subst (λ xs. Clocked (c k) xs (d k)) (sym (e k)) (h k k_in)
  over_notes n c (l ∷ ls) ns ms d e h =
      (h.0, record { first = h.1.first; after = h.1.after; split = λ k. e k ∙ h.1.split k; clocked = h.1.clocked; greatest = h.1.greatest }, h.2)

  -- one piece after another
  pub over-append : (n : ℕ) (c : ℕ → ℕ) (ls : List ℕ) (ns : ℕ → List (Noted I)) (d : ℕ → ℕ) (ms : List ℕ) (ps : ℕ → List (Noted I)) (e : ℕ → ℕ)
      → ClockedOver n c ls ns d → ClockedOver n d ms ps e
      → ClockedOver n c (ls ++ ms) (λ k. ns k ++ ps k) e
  over-append n c [] ns d [] ps e h g = λ k k_in. clocked-append (c k) (d k) (e k) (ns k) (ps k) (h k k_in) (g k k_in)
  over-append n c [] ns d (m ∷ ms) ps e h g = (
    g.0,
    record {
      first = λ k. ns k ++ g.1.first k;
      after = g.1.after;
      split = λ k. ap (λ xs. ns k ++ xs) (g.1.split k) ∙ sym (append_assoc (ns k) (g.1.first k) (g.0 k));
      clocked = λ k k_in. clocked-append (c k) (d k) (g.1.after k) (ns k) (g.1.first k) (h k k_in) (g.1.clocked k k_in);
      greatest = g.1.greatest;
    },
    g.2,
  )
  over-append n c (l ∷ ls) ns d ms ps e h g = (
    λ k. h.0 k ++ ps k,
    record {
      first = h.1.first;
      after = h.1.after;
      split = λ k. ap (λ xs. xs ++ ps k) (h.1.split k) ∙ append_assoc (h.1.first k) (h.0 k) (ps k);
      clocked = h.1.clocked;
      greatest = h.1.greatest;
    },
    over-append n (λ k. l) ls h.0 d ms ps e h.2 g,
  )

  -- clocks rise over levels too, and are above stamps
  pub over_rises : (n : ℕ) (c : ℕ → ℕ) (ls : List ℕ) (ns : ℕ → List (Noted I)) (d : ℕ → ℕ) (k : ℕ) → k < n → ClockedOver n c ls ns d
      → Rising (c k) (deeds (ns k)) (d k)
  over_rises n c [] ns d k k_in h = clocked_rises (c k) (d k) (ns k) (h k k_in)
  over_rises n c (l ∷ ls) ns d k k_in h = rw (h.1.split k, deeds_both (h.1.first k) (h.0 k))
      (rising-append (c k) (h.1.after k) l (d k) (deeds (h.1.first k)) (deeds (h.0 k))
      (clocked_rises (c k) (h.1.after k) (h.1.first k) (h.1.clocked k k_in)) (h.1.greatest.bound k k_in) (over_rises n (λ j. l) ls h.0 d k k_in h.2))

  pub over_later : (n : ℕ) (c : ℕ → ℕ) (ls : List ℕ) (ns : ℕ → List (Noted I)) (d : ℕ → ℕ) (k : ℕ) → k < n → ClockedOver n c ls ns d
      → AllByRecursion IsLater (ns k)
  over_later n c [] ns d k k_in h = clocked_later (c k) (d k) (ns k) (h k k_in)
  over_later n c (l ∷ ls) ns d k k_in h = rw (h.1.split k) (all-append IsLater (h.1.first k) (h.0 k)
      (clocked_later (c k) (h.1.after k) (h.1.first k) (h.1.clocked k k_in)) (over_later n (λ j. l) ls h.0 d k k_in h.2))
