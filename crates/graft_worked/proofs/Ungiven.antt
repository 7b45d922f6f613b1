-- Where no step of the script empties a router, nothing is given out as a group begins.
use Rattle.std.proofs.Common.{◌≡◌, ℕ, ◌<◌, ◌==◌, Bool, true, false, cond, Option, Some, None, refl, ap, arith}
use Rattle.std.specs.Prelude.{slice_get}
use Rattle.graft_model.specs.Setups.{Setup, ScriptStep, SayStep, MoveStep, EvacuateStep, SettleStep, ScriptGraft, group_of, graft_at}
use Rattle.graft_model.specs.Parts.{Gift, Unmade, OperatorPart}
use Rattle.graft_model.specs.Placements.{placement}
use Rattle.graft_model.specs.Evacuations.{gift_by, gift_in_group, gift_or, with_gifts}
use Rattle.graft_model.proofs.Numbers.{index_of_graft}

abbrev pub empties : Option ScriptStep → Bool
empties None = false
empties (Some (SayStep peering bytes)) = false
empties (Some (MoveStep peering target)) = false
empties (Some (EvacuateStep router)) = true
empties (Some SettleStep) = false

no_gift : (setup : Setup) (placed : ℕ → ℕ) (step : Option ScriptStep) (p : ℕ) → empties step ≡ false → gift_by setup placed step p ≡ Unmade
no_gift setup placed None p e = refl
no_gift setup placed (Some (SayStep peering bytes)) p e = refl
no_gift setup placed (Some (MoveStep peering target)) p e = refl
no_gift setup placed (Some (EvacuateStep router)) p e = absurd cc
no_gift setup placed (Some SettleStep) p e = refl

pub nothing_given : (setup : Setup) (part : OperatorPart) → ((n : ℕ) → empties (slice_get setup.steps n) ≡ false) → with_gifts setup part ≡ part
nothing_given setup part none = λ i. record part { given = λ k. keeps (graft_at setup k) (part.given k) i } where
  keeps : (graft : Option ScriptGraft) (gift : Gift) → gift_or (gift_in_group setup part.group (placement setup part) graft) gift ≡ gift
  keeps None gift = refl
  keeps (Some g) gift = elim (group_of setup g.step == part.group)
      as (λ b. gift_or (cond b (gift_by setup (placement setup part) (slice_get setup.steps g.step) g.peering) Unmade) gift ≡ gift) [
        | true ↦ ap (λ (z : Gift). gift_or z gift) (no_gift setup (placement setup part) (slice_get setup.steps g.step) g.peering (none g.step))
        | false ↦ refl
      ]

-- numbers begin with 1
pub none_before : (setup : Setup) (g : ScriptGraft) → graft_at setup g.graft ≡ Some g → g.graft < 1 → ⊥
none_before setup g known first = let t = index_of_graft setup g.graft g known in omega (arith, t.1, first)
