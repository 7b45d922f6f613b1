-- The steps of one group, from the index where it begins to the step that ends it.
use Rattle.std.proofs.Common.{◌≡◌, ℕ, zero, suc, ◌+◌, ◌-◌, ◌<◌, ◌≤◌, Some, ap, ◌∙◌, inl, inr, arith}
use Rattle.std.specs.Prelude.{◌≢◌, slice_get}
use Rattle.std.proofs.lemmas.Bool.{cases_eq, cases_lt}
use Rattle.std.proofs.lemmas.Option.{slice_get_within}
use Rattle.graft_model.specs.Setups.{Setup, SettleStep, group_of}
use Rattle.operator_state.specs.Keeps.{EndsAt}
use Rattle.operator_state.proofs.Lists.{there_is}
use Rattle.operator_state.proofs.Scripts.{groups_rise, group_after_settle, group_after_other}

module _ (setup : Setup) where
  module _ (group from len : ℕ) (begins : group_of setup from ≡ group)
      (others : (n : ℕ) → from ≤ n → n < from + len → slice_get setup.steps n ≢ Some SettleStep)
      (settle : slice_get setup.steps (from + len) ≡ Some SettleStep) where
    spans : (j : ℕ) → j ≤ len → group_of setup (from + j) ≡ group
    spans zero within = ap (group_of setup) (let e : from + zero ≡ from = omega arith in e) ∙ begins
    spans (suc j) within =
        let end = slice_get_within setup.steps (from + len) SettleStep settle in
        let step = there_is setup.steps (from + j) (omega (arith, within, end)) in
        ap (group_of setup) (let e : from + suc j ≡ from + j + 1 = omega arith in e)
        ∙ (group_after_other setup (from + j) step.0 step.1 (λ is. others (from + j) (omega arith) (omega (arith, within)) (step.1 ∙ ap Some is))
        ∙ spans j (omega (arith, within)))

    pub group_in_span : (n : ℕ) → from ≤ n → n ≤ from + len → group_of setup n ≡ group
    group_in_span n behind within =
        let is : n ≡ from + (n - from) = omega (arith, behind) in
        ap (group_of setup) is ∙ spans (n - from) (omega (arith, behind, within))

    pub group_past_span : group_of setup (from + len + 1) ≡ group + 1
    group_past_span = group_after_settle setup (from + len) settle ∙ ap (λ (k : ℕ). k + 1) (group_in_span (from + len) (omega arith) (omega arith))

    -- a step of the group, but for the one that ends it, is in the span
    pub in_span : ((n : ℕ) → n < from → group_of setup n < group) → (n : ℕ) → group_of setup n ≡ group → slice_get setup.steps n ≢ Some SettleStep
        → (from ≤ n) × (n < from + len)
    in_span before n is other = elim (cases_lt n from) [
      | inl early ↦ let less = before n early in absurd (omega (arith, less, is))
      | inr behind ↦ elim (cases_lt n (from + len)) [
        | inl within ↦ (behind, within)
        | inr past ↦ elim (cases_eq n (from + len)) [
          | inl end ↦ absurd (other (ap (slice_get setup.steps) end ∙ settle))
          | inr later ↦
              let rise = groups_rise setup (from + len + 1) n (omega (arith, past, later)) in
              let next = group_past_span in absurd (omega (arith, rise, next, is))
        ]
      ]
    ]

    pub span_ends : EndsAt setup group (from + len + 1)
    span_ends = record {
      within = let there = slice_get_within setup.steps (from + len) SettleStep settle in omega (arith, there);
      begins = group_past_span;
      before = λ n early.
          let rise = groups_rise setup n (from + len) (omega (arith, early)) in
          let end = group_in_span (from + len) (omega arith) (omega arith) in omega (arith, rise, end);
    }
