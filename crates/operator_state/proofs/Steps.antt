-- The steps of a script, as the laboratory has them.
use Rattle.std.proofs.Common.{◌≡◌, ℕ, zero, suc, ◌+◌, ◌<◌, List, [], ◌∷◌, length, take, map, Option, Some, None, refl, sym, ap, ◌∙◌, subst, arith}
use Rattle.std.specs.Prelude.{slice_get, slice_index_or, sum_by}
use Rattle.std.specs.Option.{option_map}
use Rattle.std.proofs.lemmas.List.{length-append, length-map}
use Rattle.std.proofs.lemmas.List.FromFn.{length-range_with_len}
use Rattle.std.proofs.lemmas.List.Sums.{sum_by-cons}
use Rattle.std.proofs.lemmas.Option.{slice_get-map}
use Rattle.graft_edge.specs.declared.ids.PeeringId.{PeeringId}
use Rattle.graft_edge.specs.declared.ids.RouterId.{RouterId}
use Rattle.graft_model.specs.Setups.{Setup, ScriptStep as StepOf, SayStep, MoveStep, EvacuateStep, SettleStep, moved_by}
use Rattle.graft_model.specs.Setups.{grafts_numbered, grafts_after, grafts_before, routers_in, peerings_in}
use Rattle.graft_model.specs.OperatorRows.{number_by}
use Rattle.operator_state.specs.declared.groups.Task.{Task}
use Rattle.actor_configs.specs.declared.script.Script.{Script}
use Rattle.actor_configs.specs.declared.script.ScriptStep.{ScriptStep}
use Rattle.actor_configs.specs.declared.script.ScriptStep.TheVariants.{Say, Settle}
use Rattle.actor_configs.specs.Scripts.{step_for, IsScriptOf}
use Rattle.operator_state.specs.Groups.{grafts_by, AreNumbers}
use Rattle.operator_state.specs.Keeps.{IsGraftTask, IsWaitingTask}
use Rattle.operator_state.specs.Tasks.{IsNumberOf}

-- ---- grafts are counted alike

length-numbered : (k n : ℕ) (peerings : List ℕ) → length (grafts_numbered k n peerings) ≡ length peerings
length-numbered k n [] = refl
length-numbered k n (p ∷ peerings) = ap suc (length-numbered (k + 1) n peerings)

as_many : (setup : Setup) (step : StepOf) → length (moved_by setup step) ≡ grafts_by (peerings_in setup) (step_for step)
as_many setup (SayStep p bytes) = refl
as_many setup (MoveStep p target) = refl
as_many setup (EvacuateStep router) = length-range_with_len 0 (peerings_in setup)
as_many setup SettleStep = refl

counted : (setup : Setup) (k m : ℕ) (steps : List StepOf) (n : ℕ)
    → sum_by (grafts_by (peerings_in setup)) (take n (map step_for steps)) ≡ length (grafts_after setup k m (take n steps))
counted setup k m steps zero = refl
counted setup k m [] (suc n) = refl
counted setup k m (step ∷ steps) (suc n) =
    sum_by-cons (grafts_by (peerings_in setup)) (step_for step) (take n (map step_for steps))
    ∙ (let rest = counted setup (k + length (moved_by setup step)) (m + 1) steps n in
    let one = as_many setup step in
    let own = length-numbered k m (moved_by setup step) in
    let both = length-append (grafts_numbered k m (moved_by setup step)) (grafts_after setup (k + length (moved_by setup step)) (m + 1) (take n steps)) in
    omega (arith, rest, one, own, both))

-- ---- which step it is

say_from : (o : Option StepOf) (p : PeeringId) → option_map step_for o ≡ Some (Say p) → (bytes : List ℕ) × (o ≡ Some (SayStep p.0 bytes))
say_from None p e = absurd cc
say_from (Some (SayStep q bytes)) p e = let f : record { 0 = q } ≡ p = cc in (bytes, ap (λ (x : PeeringId). Some (SayStep x.0 bytes)) f)
say_from (Some (MoveStep q target)) p e = absurd cc
say_from (Some (EvacuateStep router)) p e = absurd cc
say_from (Some SettleStep) p e = absurd cc

settle_from : (o : Option StepOf) → option_map step_for o ≡ Some Settle → o ≡ Some SettleStep
settle_from None e = absurd cc
settle_from (Some (SayStep q bytes)) e = absurd cc
settle_from (Some (MoveStep q t)) e = absurd cc
settle_from (Some (EvacuateStep router)) e = absurd cc
settle_from (Some SettleStep) e = refl

-- the number of an order is as the laboratory has it
number_from : (o : Option StepOf) (task : Task) (number : ℕ) → IsNumberOf (option_map step_for o) task number → number ≡ number_by o task.graft
number_from None task number is = absurd is
number_from (Some (SayStep q bytes)) task number is = absurd is
number_from (Some (MoveStep q t)) task number is = is
number_from (Some (EvacuateStep router)) task number is = is
number_from (Some SettleStep) task number is = absurd is

-- the graft of such a task is one of its step
graft_from : (setup : Setup) (group next : ℕ) (task : Task) (number : ℕ) → IsWaitingTask setup group next task → (o : Option StepOf)
    → slice_get setup.steps task.step ≡ o → IsNumberOf (option_map step_for o) task number → IsGraftTask setup task
graft_from setup group next task number waits None e is = absurd is
graft_from setup group next task number waits (Some (SayStep q bytes)) e is = absurd is
graft_from setup group next task number waits (Some (MoveStep q t)) e is = waits.moves q t e
graft_from setup group next task number waits (Some (EvacuateStep router)) e is = waits.evacuates router e
graft_from setup group next task number waits (Some SettleStep) e is = absurd is

module _ (setup : Setup) (script : Script) (is : IsScriptOf setup script) where
  pub step_at : (n : ℕ) → slice_get script.steps n ≡ option_map step_for (slice_get setup.steps n)
  step_at n = ap (λ steps. slice_get steps n) is.steps ∙ slice_get-map step_for setup.steps n

  pub say_there : (n : ℕ) (p : PeeringId) → slice_get script.steps n ≡ Some (Say p) → (bytes : List ℕ) × (slice_get setup.steps n ≡ Some (SayStep p.0 bytes))
  say_there n p e = say_from (slice_get setup.steps n) p (sym (step_at n) ∙ e)

  pub settle_there : (n : ℕ) → slice_get script.steps n ≡ Some Settle → slice_get setup.steps n ≡ Some SettleStep
  settle_there n e = settle_from (slice_get setup.steps n) (sym (step_at n) ∙ e)

  pub settle_back : (n : ℕ) → slice_get setup.steps n ≡ Some SettleStep → slice_get script.steps n ≡ Some Settle
  settle_back n e = step_at n ∙ ap (option_map step_for) e

  pub number_there : (task : Task) (number : ℕ) → IsNumberOf (slice_get script.steps task.step) task number
      → number ≡ number_by (slice_get setup.steps task.step) task.graft
  number_there task number e =
      number_from (slice_get setup.steps task.step) task number (subst (λ (o : Option ScriptStep). IsNumberOf o task number) (step_at task.step) e)

  pub graft_task : (group next : ℕ) (task : Task) (number : ℕ) → IsWaitingTask setup group next task
      → IsNumberOf (slice_get script.steps task.step) task number → IsGraftTask setup task
  graft_task group next task number waits e =
      graft_from setup group next task number waits (slice_get setup.steps task.step) refl
      (subst (λ (o : Option ScriptStep). IsNumberOf o task number) (step_at task.step) e)

  pub as_many_routers : length script.rooms ≡ routers_in setup
  as_many_routers = ap length is.rooms ∙ length-map setup.routers (λ router. router.room)

  pub as_many_peerings : length script.starts ≡ peerings_in setup
  as_many_peerings = ap length is.starts ∙ length-map setup.peerings (λ peering. let id : RouterId = record { 0 = peering.start } in id)

  pub as_many_steps : length script.steps ≡ length setup.steps
  as_many_steps = ap length is.steps ∙ length-map setup.steps step_for

  pub number_at : (numbers : List ℕ) → AreNumbers (length script.starts) script.steps numbers → (n : ℕ) → n < length script.steps
      → slice_index_or numbers n 0 ≡ grafts_before setup n + 1
  number_at numbers are n l = are.each n l ∙ ap (λ k. k + 1)
      (ap (λ k. sum_by (grafts_by k) (take n script.steps)) as_many_peerings
      ∙ ap (λ steps. sum_by (grafts_by (peerings_in setup)) (take n steps)) is.steps ∙ counted setup 0 0 setup.steps n)
