-- What a remote says at the steps of an input is what the steps of its script have it say.
use Rattle.std.proofs.Common.{◌≡◌, ℕ, zero, suc, ◌+◌, ◌<◌, Bool, true, false, cond, eqb, List, [], ◌∷◌, ◌++◌, map, refl, sym, ap, ◌∙◌, arith}
use Rattle.std.specs.Prelude.{Option, Some, None, option_map, option_and_then, slice_get, find}
use Rattle.std.specs.List.{flat_map, enumerate_from, last_or}
use Rattle.std.proofs.lemmas.Bool.{eqb-true}
use Rattle.std.proofs.lemmas.Bool.Decides.{nat_tests}
use Rattle.bgp_types.specs.declared.message.Message.TheVariants.{UpdateMsg}
use Rattle.bgp_types.specs.Spelling.{spell}
use Rattle.graft_model.specs.Setups.{ScriptStep, SayStep, MoveStep, EvacuateStep, SettleStep}
use Rattle.lab_tables.specs.declared.input.PeeringInput.{PeeringInput}
use Rattle.lab_tables.specs.declared.input.Step.{Step}
use Rattle.lab_tables.specs.declared.input.Step.TheVariants.{Announce, Withdraw, Raw, Graft, Settle, Evacuate}
use Rattle.lab_input.specs.Said.{step_update}
use Rattle.lab_setup.specs.Setups.{is_wide_at, script_step, ended_by, ended}
use Rattle.actor_configs.specs.Says.{bytes_to_say, say_by}
use Rattle.actor_configs.specs.declared.says.Say.{Say}
use Rattle.lab_setup.specs.Said.{bytes_of_step}
use Rattle.node_configs.specs.Says.{say_if, says_of}

-- ---- by the script

module _ (peerings : List PeeringInput) (p : ℕ) where
  abbrev wide : Bool
  wide = is_wide_at peerings p

  update_said : (q : ℕ) (u : Bool → List ℕ) → say_by p (Some (SayStep q (u (is_wide_at peerings q)))) ≡ cond (eqb q p) (Some (u wide)) None
  update_said q u = by_test (eqb q p) refl where
    by_test : (t : Bool) → eqb q p ≡ t → cond t (Some (u (is_wide_at peerings q))) None ≡ cond t (Some (u wide)) None
    by_test true e = ap (λ n. Some (u (is_wide_at peerings n))) (eqb-true q p e)
    by_test false e = refl

  step_said : (step : Step) → say_by p (Some (script_step peerings step)) ≡ bytes_of_step wide p step
  step_said (Announce q prefixes a) = update_said q.0 (λ w. spell (UpdateMsg (step_update (Announce q prefixes a))) w)
  step_said (Withdraw q prefixes) = update_said q.0 (λ w. spell (UpdateMsg (step_update (Withdraw q prefixes))) w)
  step_said (Raw q bytes) = refl
  step_said (Graft q target) = refl
  step_said (Settle rounds least) = refl
  step_said (Evacuate router) = refl

  -- what stands behind the steps of an input says nothing
  end_says : (o : Option ScriptStep) (n : ℕ) → say_by p (slice_get (ended_by o) n) ≡ None
  end_says None zero = refl
  end_says None (suc n) = refl
  end_says (Some (SayStep q bytes)) zero = refl
  end_says (Some (SayStep q bytes)) (suc n) = refl
  end_says (Some (MoveStep q target)) zero = refl
  end_says (Some (MoveStep q target)) (suc n) = refl
  end_says (Some (EvacuateStep router)) zero = refl
  end_says (Some (EvacuateStep router)) (suc n) = refl
  end_says (Some SettleStep) n = refl

  steps_said : (more : List ScriptStep) → ((n : ℕ) → say_by p (slice_get more n) ≡ None) → (steps : List Step) (n : ℕ)
      → say_by p (slice_get (map (script_step peerings) steps ++ more) n) ≡ option_and_then (bytes_of_step wide p) (slice_get steps n)
  steps_said more nothing [] n = nothing n
  steps_said more nothing (step ∷ steps) zero = step_said step
  steps_said more nothing (step ∷ steps) (suc n) = steps_said more nothing steps n

  script_said : (steps : List Step) (n : ℕ)
      → say_by p (slice_get (ended (map (script_step peerings) steps)) n) ≡ option_and_then (bytes_of_step wide p) (slice_get steps n)
  script_said steps n =
      let script : List ScriptStep = map (script_step peerings) steps in
      steps_said (ended_by (last_or None script)) (end_says (last_or None script)) steps n

-- ---- by the list of what it says

module _ (said : Step → Option (List ℕ)) where
  abbrev says_from : ℕ → List Step → List Say
  says_from k steps = flat_map (λ x. say_if x.0 (said x.1)) (enumerate_from k steps)

  abbrev found : Bool → Say → List Say → ℕ → Option (List ℕ)
  found t first rest n = option_map (λ (say : Say). say.bytes) (cond t (Some first) (find (λ say. eqb say.step n) rest))

  -- what is said at another step isn't found
  passed : (k n : ℕ) (o : Option (List ℕ)) (rest : List Say) → eqb k n ≡ false → bytes_to_say (say_if k o ++ rest) n ≡ bytes_to_say rest n
  passed k n None rest other = refl
  passed k n (Some bytes) rest other = ap (λ (t : Bool). found t (record { step = k; bytes = bytes }) rest n) other

  is_other : (k n : ℕ) → n < k → eqb k n ≡ false
  is_other k n below = grind (arith, nat_tests)

  is_before : (k n : ℕ) → k < n → eqb k n ≡ false
  is_before k n above = grind (arith, nat_tests)

  is_same : (k n : ℕ) → k ≡ n → eqb k n ≡ true
  is_same k n same = grind (arith, nat_tests)

  -- nothing that is said from a step on is said before it
  none_before : (k : ℕ) (steps : List Step) (n : ℕ) → n < k → bytes_to_say (says_from k steps) n ≡ None
  none_before k [] n below = refl
  none_before k (step ∷ steps) n below = passed k n (said step) (says_from (k + 1) steps) (is_other k n below) ∙ none_before (k + 1) steps n (omega arith)

  -- what is said at this step
  first_said : (k n : ℕ) (o : Option (List ℕ)) (rest : List Say) → eqb k n ≡ true → bytes_to_say rest n ≡ None → bytes_to_say (say_if k o ++ rest) n ≡ o
  first_said k n None rest same none = none
  first_said k n (Some bytes) rest same none = ap (λ (t : Bool). found t (record { step = k; bytes = bytes }) rest n) same

  said_at : (k : ℕ) (steps : List Step) (i n : ℕ) → k + i ≡ n → bytes_to_say (says_from k steps) n ≡ option_and_then said (slice_get steps i)
  said_at k [] i n at = refl
  said_at k (step ∷ steps) zero n at =
      first_said k n (said step) (says_from (k + 1) steps) (is_same k n (omega (arith, at))) (none_before (k + 1) steps n (omega (arith, at)))
  said_at k (step ∷ steps) (suc i) n at = passed k n (said step) (says_from (k + 1) steps) (is_before k n (omega (arith, at)))
      ∙ said_at (k + 1) steps i n (omega (arith, at))

-- what the remote says at a step is what the script has it say
pub says_are : (peerings : List PeeringInput) (p : ℕ) (steps : List Step) (n : ℕ)
    → bytes_to_say (says_of (is_wide_at peerings p) p steps) n ≡ say_by p (slice_get (ended (map (script_step peerings) steps)) n)
says_are peerings p steps n =
    let at : 0 + n ≡ n = omega arith in
    said_at (bytes_of_step (is_wide_at peerings p) p) 0 steps n n at ∙ sym (script_said peerings p steps n)
