-- What a channel holds, counted: what was sent into it, and what was taken from it.
use Rattle.std.proofs.Common.{◌≡◌, ◌≢◌, ◌<◌, ◌+◌, ℕ, Bool, true, false, List, [], ◌∷◌, ◌++◌, ◌==◌}
use Rattle.std.proofs.Common.{if◌then◌else◌, length, refl, ap, sym, ◌∙◌, arith, inl, inr, length-append}
use Rattle.std.specs.Prelude.{Option, Some, None}
use Rattle.std.proofs.lemmas.Bool.Decides.{nat_tests}
use Rattle.std.proofs.lemmas.Grind.{flat_map-append}
use Rattle.std.proofs.lemmas.List.{length-map, append-nil}
use Rattle.std.proofs.lemmas.List.Elements.{filter-append}
use Rattle.ring_net.specs.declared.entry.Stamped.{Stamped}
use Rattle.ring_net.specs.Deeds.{Noted, Makes, items_for, from_option, puts, gets, sent_to, taken_from, deeds}
use Rattle.journal_merge.specs.Worlds.{DeedWorld, taken_of, takes_on, sends_on, DeedStep, DeedRun}
use Rattle.journal_merge.specs.Growth.{noted_by}
use Rattle.journal_merge.proofs.Orders.{equal_or_not}
use Rattle.journal_merge.proofs.Runs.{own_here, own_else}
use Rattle.run_clocks.proofs.Fronts.{Along}

test_here : (m k : ℕ) → m ≡ k → (k == m) ≡ true
test_here m k e = grind (arith, nat_tests)

test_else : (m k : ℕ) → m ≢ k → (k == m) ≡ false
test_else m k e = grind (arith, nat_tests)

module _ {I : Type 0} where
  -- the channels hold what was sent and not taken, in number
  abbrev pub AreCounted : (ℕ → ℕ → List I) → List (Noted I) → Type 0
  AreCounted channel front = (a b : ℕ) → length (sent_to b (noted_by a front)) ≡ length (taken_from a (noted_by b front)) + length (channel a b)

  -- what an event takes was sent before
  abbrev pub IsSupplied : List (Noted I) → Noted I → Type 0
  IsSupplied front n = (from : ℕ) (item : I) → n.deed.taken ≡ Some (from, item)
      → length (taken_from from (noted_by n.deed.entry.actor front)) < length (sent_to n.deed.entry.actor (noted_by from front))

  -- ---- one event

  pub sends_here : (n : Noted I) (a b : ℕ) → n.deed.entry.actor ≡ a → sends_on n.deed a b ≡ items_for b n.deed.sent
  sends_here n a b e = ap (λ (t : Bool). if t then items_for b n.deed.sent else []) (test_here n.deed.entry.actor a e)

  pub sends_else : (n : Noted I) (a b : ℕ) → n.deed.entry.actor ≢ a → sends_on n.deed a b ≡ []
  sends_else n a b ne = ap (λ (t : Bool). if t then items_for b n.deed.sent else []) (test_else n.deed.entry.actor a ne)

  pub takes_here : (n : Noted I) (a b : ℕ) → n.deed.entry.actor ≡ b → takes_on n.deed a b ≡ taken_of a n.deed.taken
  takes_here n a b e = ap (λ (t : Bool). if t then taken_of a n.deed.taken else []) (test_here n.deed.entry.actor b e)

  pub takes_else : (n : Noted I) (a b : ℕ) → n.deed.entry.actor ≢ b → takes_on n.deed a b ≡ []
  takes_else n a b ne = ap (λ (t : Bool). if t then taken_of a n.deed.taken else []) (test_else n.deed.entry.actor b ne)

  pub gets_many : (a stamp : ℕ) (taken : Option (ℕ × I)) → length (from_option a stamp taken) ≡ length (taken_of a taken)
  gets_many a stamp None = refl
  gets_many a stamp (Some t) = by_case (t.0 == a)
    where
      by_case : (b : Bool) → length {A = Stamped I} (if b then record { stamp = record { 0 = stamp }; item = t.1 } ∷ [] else []) ≡ length
          (if b then t.1 ∷ [] else [])
      by_case true = refl
      by_case false = refl

  pub puts_many : (b : ℕ) (n : Noted I) → length (puts b n) ≡ length (items_for b n.deed.sent)
  puts_many b n = length-map (items_for b n.deed.sent) (λ x. record { stamp = record { 0 = n.deed.entry.clock }; item = x })

  sent_one : (n : Noted I) (a b : ℕ) → length (sent_to b (noted_by a (n ∷ []))) ≡ length (sends_on n.deed a b)
  sent_one n a b = elim (equal_or_not n.deed.entry.actor a) [
    | inl e ↦ ap (λ (ns : List (Noted I)). length (sent_to b ns)) (own_here a n [] e) ∙ ap (λ (xs : List (Stamped I)). length xs) (append-nil (puts b n))
        ∙ puts_many b n ∙ ap (λ (xs : List I). length xs) (sym (sends_here n a b e))
    | inr ne ↦ ap (λ (ns : List (Noted I)). length (sent_to b ns)) (own_else a n [] ne) ∙ ap (λ (xs : List I). length xs) (sym (sends_else n a b ne))
  ]

  taken_one : (n : Noted I) (a b : ℕ) → length (taken_from a (noted_by b (n ∷ []))) ≡ length (takes_on n.deed a b)
  taken_one n a b = elim (equal_or_not n.deed.entry.actor b) [
    | inl e ↦ ap (λ (ns : List (Noted I)). length (taken_from a ns)) (own_here b n [] e) ∙ ap (λ (xs : List (Stamped I)). length xs) (append-nil (gets a n))
        ∙ gets_many a n.stamp n.deed.taken
        ∙ ap (λ (xs : List I). length xs) (sym (takes_here n a b e))
    | inr ne ↦ ap (λ (ns : List (Noted I)). length (taken_from a ns)) (own_else b n [] ne) ∙ ap (λ (xs : List I). length xs) (sym (takes_else n a b ne))
  ]

  sent_more : (front : List (Noted I)) (n : Noted I) (a b : ℕ) → length (sent_to b (noted_by a (front ++ n ∷ []))) ≡ length
      (sent_to b (noted_by a front)) + length (sends_on n.deed a b)
  sent_more front n a b = ap (λ (ns : List (Noted I)). length (sent_to b ns)) (filter-append (λ (m : Noted I). m.deed.entry.actor == a) front (n ∷ []))
      ∙ ap (λ (xs : List (Stamped I)). length xs) (flat_map-append (puts b) (noted_by a front) (noted_by a (n ∷ [])))
      ∙ length-append (sent_to b (noted_by a front)) (sent_to b (noted_by a (n ∷ []))) ∙ ap (λ k. length (sent_to b (noted_by a front)) + k) (sent_one n a b)

  taken_more : (front : List (Noted I)) (n : Noted I) (a b : ℕ) → length (taken_from a (noted_by b (front ++ n ∷ []))) ≡ length
      (taken_from a (noted_by b front)) + length (takes_on n.deed a b)
  taken_more front n a b = ap (λ (ns : List (Noted I)). length (taken_from a ns)) (filter-append (λ (m : Noted I). m.deed.entry.actor == b) front (n ∷ []))
      ∙ ap (λ (xs : List (Stamped I)). length xs) (flat_map-append (gets a) (noted_by b front) (noted_by b (n ∷ [])))
      ∙ length-append (taken_from a (noted_by b front)) (taken_from a (noted_by b (n ∷ [])))
      ∙ ap (λ k. length (taken_from a (noted_by b front)) + k) (taken_one n a b)

  pub taken_itself : (from : ℕ) (item : I) → taken_of from (Some (from, item)) ≡ item ∷ []
  taken_itself from item = ap (λ (t : Bool). if t then item ∷ [] else []) (test_here from from refl)

-- ---- a run

module _ {P I : Type 0} (makes : Makes P I) where
  counted_on : (front : List (Noted I)) (n : Noted I) (w v : DeedWorld P I) → AreCounted w.channel front → DeedStep makes w n.deed v
      → AreCounted v.channel (front ++ n ∷ [])
  counted_on front n w v counted step a b =
      let before : length (w.channel a b) ≡ length (takes_on n.deed a b) + length (step.rest a b) = ap (λ (xs : List I). length xs) (step.takes a b)
      ∙ length-append (takes_on n.deed a b) (step.rest a b) in
      let after : length (v.channel a b) ≡ length (step.rest a b) + length (sends_on n.deed a b) = ap (λ (xs : List I). length xs) (step.sends a b)
      ∙ length-append (step.rest a b) (sends_on n.deed a b) in
      omega (arith, before, after, counted a b, sent_more front n a b, taken_more front n a b)

  supplied : (front : List (Noted I)) (n : Noted I) (w v : DeedWorld P I) → AreCounted w.channel front → DeedStep makes w n.deed v → IsSupplied front n
  supplied front n w v counted step from item e =
      let me : ℕ = n.deed.entry.actor in
      let some : length (takes_on n.deed from me) ≡ 1 = ap (λ (xs : List I). length xs)
      (takes_here n from me refl ∙ ap (λ t. taken_of from t) e ∙ taken_itself from item) in
      let before : length (w.channel from me) ≡ length (takes_on n.deed from me) + length (step.rest from me) = ap (λ (xs : List I). length xs)
      (step.takes from me) ∙ length-append (takes_on n.deed from me) (step.rest from me) in
      omega (arith, some, before, counted from me)

  pub run_supplied : (events front : List (Noted I)) (w v : DeedWorld P I) → AreCounted w.channel front → DeedRun makes w (deeds events) v
      → Along IsSupplied front events
  run_supplied [] front w v counted run = tt
  run_supplied (n ∷ events) front w v counted (m, step, run) = (
    supplied front n w m counted step,
    run_supplied events (front ++ n ∷ []) m v
        (counted_on front n w m counted step) run,
  )
