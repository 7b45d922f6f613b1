-- The laboratory that an input describes, part by part.
use Rattle.std.proofs.Common.{◌≡◌, ℕ, map, refl, ap, ◌∙◌}
use Rattle.std.specs.Prelude.{Some, slice_get, option_map}
use Rattle.lab_tables.specs.declared.input.LabInput.{LabInput}
use Rattle.lab_tables.specs.declared.input.PeeringInput.{PeeringInput}
use Rattle.lab_setup.specs.Setups.{router_setup, peering_setup, script_step, ended, setup_of}
use Rattle.lab_setup.proofs.Lists.{get_numbered}

module _ (input : LabInput) where
  -- what the setup has of the router, and of the peering, of a number
  pub router_at : (r : ℕ) → slice_get (setup_of input).routers r ≡ option_map (λ x. router_setup input (r, x)) (slice_get input.routers r)
  unfolding setup_of
  router_at r = get_numbered (router_setup input) input.routers r

  pub peering_at : (p : ℕ) → slice_get (setup_of input).peerings p ≡ option_map (λ x. peering_setup input (p, x)) (slice_get input.peerings p)
  unfolding setup_of
  peering_at p = get_numbered (peering_setup input) input.peerings p

  pub peering_there : (p : ℕ) (x : PeeringInput) → slice_get input.peerings p ≡ Some x
      → slice_get (setup_of input).peerings p ≡ Some (peering_setup input (p, x))
  peering_there p x e = peering_at p ∙ ap (option_map (λ y. peering_setup input (p, y))) e

  pub steps_are : (setup_of input).steps ≡ ended (map (script_step input.peerings) input.steps)
  unfolding setup_of
  steps_are = refl
