-- What remotes say over a whole script.
use Rattle.std.proofs.Common.{◌≡◌, ℕ, ◌+◌, Bool, true, false, cond, eqb, List, [], ◌∷◌, ◌++◌, length, map, refl, sym, ap, ◌∙◌}
use Rattle.std.specs.Prelude.{Option, Some, None, option_map, unwrap_or, slice_get, sum_by}
use Rattle.std.specs.List.{AllByRecursion, flat_map, last_or}
use Rattle.std.proofs.lemmas.Bool.{eqb-true}
use Rattle.std.proofs.lemmas.List.{length-append}
use Rattle.std.proofs.lemmas.List.Sums.{sum_by-cons}
use Rattle.bgp_types.specs.declared.message.Message.TheVariants.{UpdateMsg}
use Rattle.bgp_types.specs.Spelling.{spell}
use Rattle.graft_model.specs.Setups.{ScriptStep, SayStep, MoveStep, EvacuateStep, SettleStep}
use Rattle.graft_model.specs.Setups.{said_by as said_in_model}
use Rattle.lab_tables.specs.declared.input.PeeringInput.{PeeringInput}
use Rattle.lab_tables.specs.declared.input.Step.{Step}
use Rattle.lab_tables.specs.declared.input.Step.TheVariants.{Announce, Withdraw, Raw, Graft, Settle, Evacuate}
use Rattle.lab_input.specs.Said.{step_update}
use Rattle.lab_input.specs.Counts.{is_wide, octets_if, octets_said}
use Rattle.lab_tables.specs.declared.input.LabInput.{LabInput}
use Rattle.lab_setup.specs.Said.{some_if, said_over}
use Rattle.lab_setup.specs.Said.{bytes_of_step}
use Rattle.lab_setup.specs.Setups.{is_wide_at, script_step, ended_by, ended, setup_of}
use Rattle.lab_setup.proofs.Lists.{all_append}
use Rattle.lab_setup.proofs.Setups.{steps_are}

module _ (peerings : List PeeringInput) (p : ℕ) (peering : PeeringInput) (there : slice_get peerings p ≡ Some peering) where
  width : is_wide_at peerings p ≡ is_wide peering
  width = ap (λ o. unwrap_or (option_map is_wide o) false) there

  -- an UPDATE that a step says on a peering, in its width
  said_as : (q : ℕ) (u : Bool → List ℕ) → length (said_in_model p (SayStep q (u (is_wide_at peerings q)))) ≡ octets_if (eqb q p) (length (u (is_wide peering)))
  said_as q u = by_test (eqb q p) refl where
    by_test : (t : Bool) → eqb q p ≡ t → length (cond t (u (is_wide_at peerings q)) []) ≡ octets_if t (length (u (is_wide peering)))
    by_test true e = ap (λ n. length (u (is_wide_at peerings n))) (eqb-true q p e) ∙ ap (λ (w : Bool). length (u w)) width
    by_test false e = refl

  said_bytes : (q : ℕ) (bytes : List ℕ) → length (said_in_model p (SayStep q bytes)) ≡ octets_if (eqb q p) (length bytes)
  said_bytes q bytes = by_test (eqb q p) where
    by_test : (t : Bool) → length (cond t bytes []) ≡ octets_if t (length bytes)
    by_test true = refl
    by_test false = refl

  said_step : (step : Step) → length (said_in_model p (script_step peerings step)) ≡ octets_said (is_wide peering) p step
  said_step (Announce q prefixes a) = said_as q.0 (λ wide. spell (UpdateMsg (step_update (Announce q prefixes a))) wide)
  said_step (Withdraw q prefixes) = said_as q.0 (λ wide. spell (UpdateMsg (step_update (Withdraw q prefixes))) wide)
  said_step (Raw q bytes) = said_bytes q.0 bytes
  said_step (Graft q target) = refl
  said_step (Settle rounds least) = refl
  said_step (Evacuate router) = refl

  said_steps : (steps : List Step) (more : List ScriptStep) → length (flat_map (said_in_model p) more) ≡ 0
      → length (flat_map (said_in_model p) (map (script_step peerings) steps ++ more)) ≡ sum_by (octets_said (is_wide peering) p) steps
  said_steps [] more nothing = nothing
  said_steps (step ∷ steps) more nothing =
      length-append (said_in_model p (script_step peerings step)) (flat_map (said_in_model p) (map (script_step peerings) steps ++ more))
      ∙ ap (λ n. n + length (flat_map (said_in_model p) (map (script_step peerings) steps ++ more))) (said_step step)
      ∙ ap (λ n. octets_said (is_wide peering) p step + n) (said_steps steps more nothing)
      ∙ sym (sum_by-cons (octets_said (is_wide peering) p) step steps)

  nothing_more : (o : Option ScriptStep) → length (flat_map (said_in_model p) (ended_by o)) ≡ 0
  nothing_more None = refl
  nothing_more (Some (SayStep q bytes)) = refl
  nothing_more (Some (MoveStep q target)) = refl
  nothing_more (Some (EvacuateStep router)) = refl
  nothing_more (Some SettleStep) = refl

  -- what a remote says over the script has as many octets as over the steps of the input
  pub said_whole : (steps : List Step)
      → length (flat_map (said_in_model p) (ended (map (script_step peerings) steps))) ≡ sum_by (octets_said (is_wide peering) p) steps
  said_whole steps =
      said_steps steps (ended_by (last_or None (map (script_step peerings) steps))) (nothing_more (last_or None (map (script_step peerings) steps)))

  -- ---- the bytes themselves

  bytes_as : (q : ℕ) (u : Bool → List ℕ) → said_in_model p (SayStep q (u (is_wide_at peerings q))) ≡ unwrap_or (some_if (eqb q p) (u (is_wide peering))) []
  bytes_as q u = by_test (eqb q p) refl where
    by_test : (t : Bool) → eqb q p ≡ t → cond t (u (is_wide_at peerings q)) [] ≡ unwrap_or (some_if t (u (is_wide peering))) []
    by_test true e = ap (λ n. u (is_wide_at peerings n)) (eqb-true q p e) ∙ ap u width
    by_test false e = refl

  raw_bytes : (q : ℕ) (bytes : List ℕ) → said_in_model p (SayStep q bytes) ≡ unwrap_or (some_if (eqb q p) bytes) []
  raw_bytes q bytes = by_test (eqb q p) where
    by_test : (t : Bool) → cond t bytes [] ≡ unwrap_or (some_if t bytes) []
    by_test true = refl
    by_test false = refl

  step_bytes : (step : Step) → said_in_model p (script_step peerings step) ≡ unwrap_or (bytes_of_step (is_wide peering) p step) []
  step_bytes (Announce q prefixes a) = bytes_as q.0 (λ wide. spell (UpdateMsg (step_update (Announce q prefixes a))) wide)
  step_bytes (Withdraw q prefixes) = bytes_as q.0 (λ wide. spell (UpdateMsg (step_update (Withdraw q prefixes))) wide)
  step_bytes (Raw q bytes) = raw_bytes q.0 bytes
  step_bytes (Graft q target) = refl
  step_bytes (Settle rounds least) = refl
  step_bytes (Evacuate router) = refl

  steps_bytes : (steps : List Step) (more : List ScriptStep) → flat_map (said_in_model p) more ≡ []
      → flat_map (said_in_model p) (map (script_step peerings) steps ++ more) ≡ said_over (is_wide peering) p steps
  steps_bytes [] more nothing = nothing
  steps_bytes (step ∷ steps) more nothing =
      ap (λ bytes. bytes ++ flat_map (said_in_model p) (map (script_step peerings) steps ++ more)) (step_bytes step)
      ∙ ap (λ bytes. unwrap_or (bytes_of_step (is_wide peering) p step) [] ++ bytes) (steps_bytes steps more nothing)

  silent_end : (o : Option ScriptStep) → flat_map (said_in_model p) (ended_by o) ≡ []
  silent_end None = refl
  silent_end (Some (SayStep q bytes)) = refl
  silent_end (Some (MoveStep q target)) = refl
  silent_end (Some (EvacuateStep router)) = refl
  silent_end (Some SettleStep) = refl

  -- what a remote says over the script is what the steps of the input have it say
  pub script_bytes : (steps : List Step) → flat_map (said_in_model p) (ended (map (script_step peerings) steps)) ≡ said_over (is_wide peering) p steps
  script_bytes steps =
      steps_bytes steps (ended_by (last_or None (map (script_step peerings) steps))) (silent_end (last_or None (map (script_step peerings) steps)))

pub setup_bytes : (input : LabInput) (p : ℕ) (peering : PeeringInput) → slice_get input.peerings p ≡ Some peering
    → flat_map (said_in_model p) (setup_of input).steps ≡ said_over (is_wide peering) p input.steps
setup_bytes input p peering there = ap (flat_map (said_in_model p)) (steps_are input) ∙ script_bytes input.peerings p peering there input.steps

-- ---- the last step

last_append : (o : Option ScriptStep) (steps : List ScriptStep) (x : ScriptStep) → last_or o (steps ++ x ∷ []) ≡ Some x
last_append o [] x = refl
last_append o (y ∷ ys) x = last_append (Some y) ys x

no_more : (o : Option ScriptStep) (steps : List ScriptStep) → last_or o (steps ++ []) ≡ last_or o steps
no_more o [] = refl
no_more o (y ∷ ys) = no_more (Some y) ys

pub ends_with_settle : (steps : List ScriptStep) → last_or None (ended steps) ≡ Some SettleStep
ends_with_settle steps = by_last (last_or None steps) refl where
  by_last : (o : Option ScriptStep) → last_or None steps ≡ o → last_or None (steps ++ ended_by o) ≡ Some SettleStep
  by_last None e = last_append None steps SettleStep
  by_last (Some (SayStep q bytes)) e = last_append None steps SettleStep
  by_last (Some (MoveStep q target)) e = last_append None steps SettleStep
  by_last (Some (EvacuateStep router)) e = last_append None steps SettleStep
  by_last (Some SettleStep) e = no_more None steps ∙ e

-- what is of each step, and of the end of a group
pub all_ended : (P : ScriptStep → Type 0) → P SettleStep → (steps : List ScriptStep) → AllByRecursion P steps → AllByRecursion P (ended steps)
all_ended P settle steps all = all_append P steps (ended_by (last_or None steps)) all (by_last (last_or None steps)) where
  by_last : (o : Option ScriptStep) → AllByRecursion P (ended_by o)
  by_last None = (settle, tt)
  by_last (Some (SayStep q bytes)) = (settle, tt)
  by_last (Some (MoveStep q target)) = (settle, tt)
  by_last (Some (EvacuateStep router)) = (settle, tt)
  by_last (Some SettleStep) = tt
