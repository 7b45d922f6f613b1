-- Where a session belongs by the log.
use Rattle.std.proofs.Common.{◌≡◌, ℕ, zero, suc, ◌<◌, ◌==◌, ◌&&◌, Bool, true, false, List, [], ◌∷◌, filter}
use Rattle.std.proofs.Common.{Option, Some, None, unwrap_or, refl, sym, ap, ◌∙◌, inl, inr, arith}
use Rattle.std.specs.Prelude.{◌⊎◌, slice_get}
use Rattle.std.specs.Option.{option_and_then}
use Rattle.std.specs.List.{last_or}
use Rattle.std.proofs.lemmas.Bool.Decides.{nat_tests}
use Rattle.graft_model.specs.Setups.{Setup, ScriptGraft, grafts_in, start_of}
use Rattle.graft_model.specs.Parts.{OperatorPart}
use Rattle.graft_model.specs.Placements.{target_in, is_accepted, placement}
use Rattle.operator_state.proofs.Lists.{by_test}

-- where none passes, nothing is the last
none_last : (o : Option ScriptGraft) (test : ScriptGraft → Bool) (grafts : List ScriptGraft)
    → ((j : ℕ) (g : ScriptGraft) → slice_get grafts j ≡ Some g → test g ≡ false)
    → last_or o (filter test grafts) ≡ o
none_last o test [] none = refl
none_last o test (g ∷ grafts) none = let e : test g ≡ false = none 0 g refl in rw e (none_last o test grafts (λ j x. none (suc j) x))

-- one that passes, with none after it that does, is the last
one_last : (o : Option ScriptGraft) (test : ScriptGraft → Bool) (grafts : List ScriptGraft) (i : ℕ) (g : ScriptGraft) → slice_get grafts i ≡ Some g
    → test g ≡ true
    → ((j : ℕ) (x : ScriptGraft) → i < j → slice_get grafts j ≡ Some x → test x ≡ false) → last_or o (filter test grafts) ≡ Some g
one_last o test [] i g e passes none = absurd cc
one_last o test (x ∷ grafts) zero g e passes none =
    let same : x ≡ g = cc in
    let f : test x ≡ true = ap test same ∙ passes in
    rw f (none_last (Some x) test grafts (λ j y. none (suc j) y (omega arith)) ∙ ap Some same)
one_last o test (x ∷ grafts) (suc i) g e passes none = elim (by_test (test x)) [
  | inl f ↦ rw f (one_last (Some x) test grafts i g e passes (λ j y l. none (suc j) y (omega arith)))
  | inr f ↦ rw f (one_last o test grafts i g e passes (λ j y l. none (suc j) y (omega arith)))
]

-- tests that agree on all grafts choose the same
same_last : (o : Option ScriptGraft) (test other : ScriptGraft → Bool) (grafts : List ScriptGraft)
    → ((j : ℕ) (g : ScriptGraft) → slice_get grafts j ≡ Some g → test g ≡ other g)
    → last_or o (filter test grafts) ≡ last_or o (filter other grafts)
same_last o test other [] same = refl
same_last o test other (g ∷ grafts) same =
    let e : test g ≡ other g = same 0 g refl in
    elim (by_test (other g)) [
      | inl f ↦ let h : test g ≡ true = e ∙ f in rw (h, f) (same_last (Some g) test other grafts (λ j x. same (suc j) x))
      | inr f ↦ let h : test g ≡ false = e ∙ f in rw (h, f) (same_last o test other grafts (λ j x. same (suc j) x))
    ]

-- the last one passes, if it isn't the one before all
last_passes : (o : Option ScriptGraft) (test : ScriptGraft → Bool) (grafts : List ScriptGraft) (g : ScriptGraft) → last_or o (filter test grafts) ≡ Some g
    → (o ≡ Some g) ⊎ ((j : ℕ) × (slice_get grafts j ≡ Some g) × (test g ≡ true))
last_passes o test [] g e = inl e
last_passes o test (x ∷ grafts) g e = elim (by_test (test x)) [
  | inl f ↦
      let h : last_or (Some x) (filter test grafts) ≡ Some g = sym (step f) ∙ e in
      elim (last_passes (Some x) test grafts g h) [
        | inl is ↦ let same : x ≡ g = cc in inr (0, ap Some same, sym (ap test same) ∙ f)
        | inr (j, there, passes) ↦ inr (suc j, there, passes)
      ]
  | inr f ↦
      let h : last_or o (filter test grafts) ≡ Some g = sym (skip f) ∙ e in
      elim (last_passes o test grafts g h) [
        | inl is ↦ inl is
        | inr (j, there, passes) ↦ inr (suc j, there, passes)
      ]
]
  where
    step : test x ≡ true → last_or o (filter test (x ∷ grafts)) ≡ last_or (Some x) (filter test grafts)
    step f = rw f refl

    skip : test x ≡ false → last_or o (filter test (x ∷ grafts)) ≡ last_or o (filter test grafts)
    skip f = rw f refl

module _ (setup : Setup) (p : ℕ) where
  -- whether a graft is an accepted one of the peering
  abbrev counts : OperatorPart → ScriptGraft → Bool
  counts part g = (g.peering == p) && is_accepted (part.outcome g.graft)

  counts_is : (part : OperatorPart) (g : ScriptGraft) → g.peering ≡ p → is_accepted (part.outcome g.graft) ≡ true → counts part g ≡ true
  counts_is part g of_p accepted = let f : (g.peering == p) ≡ true = grind (arith, nat_tests) in ap (λ b. b && is_accepted (part.outcome g.graft)) f ∙ accepted

  counts_not : (part : OperatorPart) (g : ScriptGraft) → (g.peering ≡ p → is_accepted (part.outcome g.graft) ≡ false) → counts part g ≡ false
  counts_not part g none = elim (by_test (g.peering == p)) [
    | inl f ↦ let of_p : g.peering ≡ p = grind (arith, nat_tests) in ap (λ b. b && is_accepted (part.outcome g.graft)) f ∙ none of_p
    | inr f ↦ ap (λ b. b && is_accepted (part.outcome g.graft)) f
  ]

  -- an accepted graft of the peering, with none accepted after it
  pub placed_at : (part : OperatorPart) (i : ℕ) (g : ScriptGraft) (target : ℕ) → slice_get (grafts_in setup) i ≡ Some g → g.peering ≡ p
      → is_accepted (part.outcome g.graft) ≡ true
      → ((j : ℕ) (x : ScriptGraft) → i < j → slice_get (grafts_in setup) j ≡ Some x → x.peering ≡ p → is_accepted (part.outcome x.graft) ≡ false)
      → target_in setup part g ≡ Some target → placement setup part p ≡ target
  placed_at part i g target e of_p accepted none aims =
      ap (λ o. unwrap_or (option_and_then (target_in setup part) o) (start_of setup p))
      (one_last None (counts part) (grafts_in setup) i g e (counts_is part g of_p accepted) (λ j x l there. counts_not part x (none j x l there)))
      ∙ ap (λ o. unwrap_or o (start_of setup p)) aims

  -- outcomes that agree on the peering's grafts, and targets that agree on its accepted ones, index it alike
  pub placed_alike : (part other : OperatorPart)
      → ((j : ℕ) (g : ScriptGraft) → slice_get (grafts_in setup) j ≡ Some g → g.peering ≡ p
      → is_accepted (part.outcome g.graft) ≡ is_accepted (other.outcome g.graft))
      → ((j : ℕ) (g : ScriptGraft) → slice_get (grafts_in setup) j ≡ Some g
      → is_accepted (other.outcome g.graft) ≡ true → target_in setup part g ≡ target_in setup other g)
      → placement setup part p ≡ placement setup other p
  placed_alike part other same aims =
      ap (λ o. unwrap_or (option_and_then (target_in setup part) o) (start_of setup p)) (same_last None (counts part) (counts other) (grafts_in setup) tests)
      ∙ by_last (last_or None (filter (counts other) (grafts_in setup))) refl
    where
      tests : (j : ℕ) (g : ScriptGraft) → slice_get (grafts_in setup) j ≡ Some g → counts part g ≡ counts other g
      tests j g there = elim (by_test (g.peering == p)) [
        | inl f ↦ let of_p : g.peering ≡ p = grind (arith, nat_tests) in ap (λ b. (g.peering == p) && b) (same j g there of_p)
        | inr f ↦ ap (λ b. b && is_accepted (part.outcome g.graft)) f ∙ sym (ap (λ b. b && is_accepted (other.outcome g.graft)) f)
      ]

      accepted : (g : ScriptGraft) → counts other g ≡ true → is_accepted (other.outcome g.graft) ≡ true
      accepted g e = elim (by_test (is_accepted (other.outcome g.graft))) [
        | inl f ↦ f
        | inr f ↦ absurd (let h : false ≡ true = sym (counts_not other g (λ of_p. f)) ∙ e in cc)
      ]

      by_last : (o : Option ScriptGraft) → last_or None (filter (counts other) (grafts_in setup)) ≡ o
          → unwrap_or (option_and_then (target_in setup part) (last_or None (filter (counts other) (grafts_in setup)))) (start_of setup p)
          ≡ placement setup other p
      by_last None e =
          ap (λ o. unwrap_or (option_and_then (target_in setup part) o) (start_of setup p)) e
          ∙ sym (ap (λ o. unwrap_or (option_and_then (target_in setup other) o) (start_of setup p)) e)
      by_last (Some g) e =
          ap (λ o. unwrap_or (option_and_then (target_in setup part) o) (start_of setup p)) e
          ∙ elim (last_passes None (counts other) (grafts_in setup) g e) [
            | inl none ↦ absurd cc
            | inr (j, there, passes) ↦ ap (λ o. unwrap_or o (start_of setup p)) (aims j g there (accepted g passes))
          ]
          ∙ sym (ap (λ o. unwrap_or (option_and_then (target_in setup other) o) (start_of setup p)) e)

  -- before any is accepted it is where it starts
  pub placed_first : (part : OperatorPart) → ((k : ℕ) → part.outcome k ≡ None) → placement setup part p ≡ start_of setup p
  placed_first part none = ap (λ o. unwrap_or (option_and_then (target_in setup part) o) (start_of setup p))
      (none_last None (counts part) (grafts_in setup) (λ j g there. counts_not part g (λ of_p. ap is_accepted (none g.graft))))
