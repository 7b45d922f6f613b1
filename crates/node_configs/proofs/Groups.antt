-- Each group has one budget.
use Rattle.std.proofs.Common.{◌≡◌, ℕ, ◌-◌, false, List, [], ◌∷◌, ◌++◌, length, map, refl, sym, ap, ◌∙◌, arith}
use Rattle.std.specs.Prelude.{Option, Some, None, option_map, slice_get, filter}
use Rattle.std.specs.List.{flat_map, last_or}
use Rattle.std.specs.Option.{option_map_or}
use Rattle.std.proofs.lemmas.List.{length-append}
use Rattle.std.proofs.lemmas.List.Elements.{filter-append}
use Rattle.graft_model.specs.Setups.{ScriptStep, groups_in}
use Rattle.graft_model.specs.Setups.{is_settle as ends_group}
use Rattle.lab_tables.specs.declared.input.LabInput.{LabInput}
use Rattle.lab_tables.specs.declared.input.PeeringInput.{PeeringInput}
use Rattle.lab_tables.specs.declared.input.Step.{Step}
use Rattle.lab_tables.specs.declared.input.Step.TheVariants.{Announce, Withdraw, Raw, Graft, Settle, Evacuate}
use Rattle.lab_tables.specs.Scripts.{is_settle_step}
use Rattle.lab_setup.specs.Setups.{script_step, ended_by, ended, setup_of}
use Rattle.node_configs.specs.Budgets.{usual_rounds, budget_of, ends_itself, added_budget, budgets_in}

module _ (peerings : List PeeringInput) where
  abbrev script_of : List Step → List ScriptStep
  script_of steps = map (script_step peerings) steps

  -- ---- one step

  one_step : (usual : ℕ) (step : Step) → length (budget_of usual step) ≡ length (filter ends_group (script_step peerings step ∷ []))
  one_step usual (Announce q prefixes a) = refl
  one_step usual (Withdraw q prefixes) = refl
  one_step usual (Raw q bytes) = refl
  one_step usual (Graft q target) = refl
  one_step usual (Settle rounds least) = refl
  one_step usual (Evacuate router) = refl

  all_steps : (usual : ℕ) (steps : List Step) → length (flat_map (budget_of usual) steps) ≡ length (filter ends_group (script_of steps))
  all_steps usual [] = refl
  all_steps usual (step ∷ steps) =
      let here = one_step usual step in
      let rest = all_steps usual steps in
      let left = length-append (budget_of usual step) (flat_map (budget_of usual) steps) in
      let right = length-append (filter ends_group (script_step peerings step ∷ [])) (filter ends_group (script_of steps)) in
      let parted = filter-append ends_group (script_step peerings step ∷ []) (script_of steps) in
      left ∙ omega arith ∙ sym right ∙ ap length (sym parted)

  -- ---- the last step

  last_get : (o : Option ScriptStep) (step : Step) (steps : List Step)
      → last_or o (script_of (step ∷ steps)) ≡ option_map (script_step peerings) (slice_get (step ∷ steps) (length steps))
  last_get o step [] = refl
  last_get o step (next ∷ steps) = last_get (Some (script_step peerings step)) next steps

  last_is : (steps : List Step) → last_or None (script_of steps) ≡ option_map (script_step peerings) (slice_get steps (length steps - 1))
  last_is [] = refl
  last_is (step ∷ steps) =
      let same : length steps ≡ length (step ∷ steps) - 1 = omega arith in
      last_get None step steps ∙ ap (λ k. option_map (script_step peerings) (slice_get (step ∷ steps) k)) same

  added_one : (usual : ℕ) (step : Step)
      → length (added_budget usual (is_settle_step step)) ≡ length (filter ends_group (ended_by (Some (script_step peerings step))))
  added_one usual (Announce q prefixes a) = refl
  added_one usual (Withdraw q prefixes) = refl
  added_one usual (Raw q bytes) = refl
  added_one usual (Graft q target) = refl
  added_one usual (Settle rounds least) = refl
  added_one usual (Evacuate router) = refl

  added_as : (usual : ℕ) (o : Option Step)
      → length (added_budget usual (option_map_or is_settle_step o false)) ≡ length (filter ends_group (ended_by (option_map (script_step peerings) o)))
  added_as usual None = refl
  added_as usual (Some step) = added_one usual step

  pub groups_have_budgets : (usual : ℕ) (steps : List Step)
      → length (flat_map (budget_of usual) steps ++ added_budget usual (ends_itself steps)) ≡ length (filter ends_group (ended (script_of steps)))
  groups_have_budgets usual steps =
      let budgets = flat_map (budget_of usual) steps in
      let added = added_budget usual (ends_itself steps) in
      let more = ended_by (last_or None (script_of steps)) in
      let left = length-append budgets added in
      let right = length-append (filter ends_group (script_of steps)) (filter ends_group more) in
      let parted = filter-append ends_group (script_of steps) more in
      let here = all_steps usual steps in
      let last : length added ≡ length (filter ends_group more) =
      added_as usual (slice_get steps (length steps - 1)) ∙ ap (λ o. length (filter ends_group (ended_by o))) (sym (last_is steps)) in
      left ∙ omega arith ∙ sym right ∙ ap length (sym parted)

pub each_has_one : (input : LabInput) → length (budgets_in input) ≡ groups_in (setup_of input)
unfolding setup_of
each_has_one input = groups_have_budgets input.peerings (usual_rounds input) input.steps
