-- The groups of a script, step by step.
use Rattle.std.proofs.Common.{◌≡◌, ℕ, zero, suc, ◌+◌, cond, List, [], ◌∷◌, length, take, filter, Some, refl, ap, ◌∙◌, subst, true, false, arith}
use Rattle.std.specs.Prelude.{◌≢◌, slice_get}
pub use Rattle.graft_model.proofs.Numbers.{groups_rise}
use Rattle.graft_model.specs.Setups.{Setup, ScriptStep, SayStep, MoveStep, EvacuateStep, SettleStep, is_settle, group_of}

-- how many groups end before a step: as many as before it, and one more where the one between them ends a group
groups_up : (steps : List ScriptStep) (n : ℕ) (step : ScriptStep) → slice_get steps n ≡ Some step
    → length (filter is_settle (take (suc n) steps)) ≡ length (filter is_settle (take n steps)) + length (filter is_settle (step ∷ []))
groups_up [] n step e = absurd cc
groups_up (s ∷ steps) zero step e = let f : s ≡ step = cc in
    subst (λ (x : ScriptStep). length (filter is_settle (s ∷ [])) ≡ 0 + length (filter is_settle (x ∷ []))) f (omega arith)
groups_up (s ∷ steps) (suc n) step e =
    let h : length (filter is_settle (take (suc n) steps)) ≡ length (filter is_settle (take n steps)) + length (filter is_settle (step ∷ [])) =
    groups_up steps n step e in
    elim (is_settle s) as (λ b. length (cond b (s ∷ filter is_settle (take (suc n) steps)) (filter is_settle (take (suc n) steps)))
    ≡ length (cond b (s ∷ filter is_settle (take n steps)) (filter is_settle (take n steps))) + length (filter is_settle (step ∷ []))) [
      | true ↦ omega (arith, h)
      | false ↦ h
    ]

module _ (setup : Setup) where
  next : (n : ℕ) → n + 1 ≡ suc n
  next n = omega arith

  pub group_after_settle : (n : ℕ) → slice_get setup.steps n ≡ Some SettleStep → group_of setup (n + 1) ≡ group_of setup n + 1
  group_after_settle n e = ap (λ k. group_of setup k) (next n) ∙ groups_up setup.steps n SettleStep e

  pub group_after_other : (n : ℕ) (step : ScriptStep) → slice_get setup.steps n ≡ Some step → step ≢ SettleStep → group_of setup (n + 1) ≡ group_of setup n
  group_after_other n (SayStep p bytes) e ne = ap (λ k. group_of setup k) (next n) ∙ groups_up setup.steps n (SayStep p bytes) e ∙ omega arith
  group_after_other n (MoveStep p target) e ne = ap (λ k. group_of setup k) (next n) ∙ groups_up setup.steps n (MoveStep p target) e ∙ omega arith
  group_after_other n (EvacuateStep router) e ne = ap (λ k. group_of setup k) (next n) ∙ groups_up setup.steps n (EvacuateStep router) e ∙ omega arith
  group_after_other n SettleStep e ne = absurd (ne refl)
