-- The steps of an input, and those of the script that it describes.
use Rattle.std.proofs.Common.{◌≡◌, ℕ, zero, suc, ◌<◌, Bool, true, false, cond, ◌||◌, List, [], ◌∷◌, ◌++◌, length, take, map, refl, arith}
use Rattle.std.specs.Prelude.{Option, Some, None, slice_get, filter}
use Rattle.std.specs.List.{AllByRecursion, list_any}
use Rattle.std.proofs.lemmas.Bool.{false≢true}
use Rattle.graft_model.specs.Setups.{Setup, ScriptStep, SayStep, MoveStep, EvacuateStep, SettleStep, moved_by}
use Rattle.graft_model.specs.Setups.{is_settle as ends_group}
use Rattle.lab_tables.specs.declared.input.PeeringInput.{PeeringInput}
use Rattle.lab_tables.specs.declared.input.Step.{Step}
use Rattle.lab_tables.specs.declared.input.Step.TheVariants.{Announce, Withdraw, Raw, Graft, Settle, Evacuate}
use Rattle.lab_tables.specs.Scripts.{is_settle_step}
use Rattle.lab_setup.specs.Setups.{script_step, ended_by}
use Rattle.lab_setup.proofs.Lists.{IsMadeOf, some_is, none_is, all_at}

module _ (peerings : List PeeringInput) where
  abbrev of : Step → ScriptStep
  of = script_step peerings

  -- ---- one step

  ends_as : (step : Step) → ends_group (of step) ≡ is_settle_step step
  ends_as (Announce q prefixes a) = refl
  ends_as (Withdraw q prefixes) = refl
  ends_as (Raw q bytes) = refl
  ends_as (Graft q target) = refl
  ends_as (Settle rounds least) = refl
  ends_as (Evacuate router) = refl

  -- ---- all steps

  added : (o : Option ScriptStep) → AllByRecursion (λ s. s ≡ SettleStep) (ended_by o)
  added None = (refl, tt)
  added (Some (SayStep q bytes)) = (refl, tt)
  added (Some (MoveStep q target)) = (refl, tt)
  added (Some (EvacuateStep router)) = (refl, tt)
  added (Some SettleStep) = tt

  -- a step of the script that ends no group is made of a step of the input
  pub made_of_step : (o : Option ScriptStep) (steps : List Step) (n : ℕ) (s : ScriptStep)
      → slice_get (map of steps ++ ended_by o) n ≡ Some s → (s ≡ SettleStep → ⊥)
      → IsMadeOf of (slice_get steps n) s
  made_of_step o [] n s there goes_on = absurd (goes_on (all_at (λ x. x ≡ SettleStep) (ended_by o) n s (added o) there))
  made_of_step o (step ∷ steps) zero s there goes_on = record { x = step; there = refl; is = some_is (of step) s there }
  made_of_step o (step ∷ steps) (suc n) s there goes_on = made_of_step o steps n s there goes_on

  -- behind a settle of the input a group was ended
  pub group_ended : (more : List ScriptStep) (steps : List Step) (n : ℕ) → list_any is_settle_step (take n steps) ≡ true
      → 0 < length (filter ends_group (take n (map of steps ++ more)))
  group_ended more [] zero any = absurd (false≢true any)
  group_ended more [] (suc n) any = absurd (false≢true any)
  group_ended more (step ∷ steps) zero any = absurd (false≢true any)
  group_ended more (step ∷ steps) (suc n) any = by_test (is_settle_step step) (ends_group (of step)) (ends_as step) any (group_ended more steps n) where
    by_test : (a b : Bool) → b ≡ a → (a || list_any is_settle_step (take n steps)) ≡ true
        → (list_any is_settle_step (take n steps) ≡ true → 0 < length (filter ends_group (take n (map of steps ++ more))))
        → 0 < length (cond b (of step ∷ filter ends_group (take n (map of steps ++ more))) (filter ends_group (take n (map of steps ++ more))))
    by_test a true same any later = omega arith
    by_test true false same any later = absurd (false≢true same)
    by_test false false same any later = later any

  -- the step of the input that a step of the script is made of moves a session of this peering
  abbrev pub Moves : ℕ → Step → Type 0
  Moves p (Graft q target) = q.0 ≡ p
  Moves p (Evacuate router) = Unit {0}
  Moves p _ = ⊥

  pub moves : (setup : Setup) (index p : ℕ) (step : Step) → slice_get (moved_by setup (of step)) index ≡ Some p → Moves p step
  moves setup index p (Announce q prefixes a) moved = none_is p moved
  moves setup index p (Withdraw q prefixes) moved = none_is p moved
  moves setup index p (Raw q bytes) moved = none_is p moved
  moves setup zero p (Graft q target) moved = some_is q.0 p moved
  moves setup (suc index) p (Graft q target) moved = absurd (none_is p moved)
  moves setup index p (Settle rounds least) moved = none_is p moved
  moves setup index p (Evacuate router) moved = tt
