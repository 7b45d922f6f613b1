-- The peerings and the targets of the script's grafts are there.
use Rattle.std.proofs.Common.{◌≡◌, ℕ, zero, suc, ◌<◌, Option, Some, None, refl, ap, ◌∙◌, subst}
use Rattle.std.proofs.lemmas.Option.{same_Some, slice_get_within, get_or_from_slice_get}
use Rattle.std.specs.Prelude.{slice_get}
use Rattle.graft_model.specs.Setups.{Setup, ScriptStep, SayStep, MoveStep, EvacuateStep, SettleStep, ScriptGraft}
use Rattle.graft_model.specs.Setups.{IsSetup, IsStep, routers_in, peerings_in, moved_by, graft_at}
use Rattle.graft_model.specs.Parts.{Gift, Unmade, To, Stays, OperatorPart}
use Rattle.graft_model.specs.Placements.{target_given, target_by, target_in}
use Rattle.graft_model.proofs.Numbers.{step_of_graft, peering_of_index}
use Rattle.graft_laws.proofs.Gifts.{GivesToRouters}

step_is : (setup : Setup) (n : ℕ) (step : ScriptStep) → IsSetup setup → slice_get setup.steps n ≡ Some step → IsStep setup step
step_is setup n step ok is = subst (IsStep setup) (get_or_from_slice_get setup.steps n step step is) (ok.steps n step (slice_get_within setup.steps n step is))

moved_within : (setup : Setup) (step : ScriptStep) (index p : ℕ) → IsStep setup step → slice_get (moved_by setup step) index ≡ Some p → p < peerings_in setup
moved_within setup (SayStep q bytes) index p ok e = absurd cc
moved_within setup (MoveStep q target) zero p ok e = subst (λ (x : ℕ). x < peerings_in setup) (same_Some q p e) ok.0
moved_within setup (MoveStep q target) (suc index) p ok e = absurd cc
moved_within setup (EvacuateStep router) index p ok e = (peering_of_index setup index p e).1
moved_within setup SettleStep index p ok e = absurd cc

pub graft_within : (setup : Setup) (k : ℕ) (g : ScriptGraft) → IsSetup setup → graft_at setup k ≡ Some g → g.peering < peerings_in setup
graft_within setup k g ok known =
    let s = step_of_graft setup k g known in moved_within setup s.step s.index g.peering (step_is setup g.step s.step ok s.there) s.moved

pub target_within : (setup : Setup) (operator : OperatorPart) (g : ScriptGraft) (t : ℕ) → IsSetup setup → GivesToRouters setup operator
    → target_in setup operator g ≡ Some t → t < routers_in setup
target_within setup operator g t ok known is = by_step (slice_get setup.steps g.step) refl is where
  by_gift : (gift : Gift) → operator.given g.graft ≡ gift → target_given gift ≡ Some t → t < routers_in setup
  by_gift Unmade e f = absurd cc
  by_gift (To target) e f = known g.graft t (e ∙ ap To (same_Some target t f))
  by_gift (Stays router) e f = absurd cc

  by_step : (o : Option ScriptStep) → slice_get setup.steps g.step ≡ o → target_by o (operator.given g.graft) ≡ Some t → t < routers_in setup
  by_step None e f = absurd cc
  by_step (Some (SayStep p bytes)) e f = absurd cc
  by_step (Some (MoveStep p target)) e f = subst (λ (x : ℕ). x < routers_in setup) (same_Some target t f) (step_is setup g.step (MoveStep p target) ok e).1
  by_step (Some (EvacuateStep router)) e f = by_gift (operator.given g.graft) refl f
  by_step (Some SettleStep) e f = absurd cc
