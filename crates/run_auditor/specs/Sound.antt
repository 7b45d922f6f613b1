-- What an auditor keeps.
use Rattle.std.specs.Prelude.{ℕ, ◌≡◌, ◌≤◌, length, Some, slice_get}
use Rattle.graft_model.specs.Parts.{World}
use Rattle.graft_model.specs.Setups.{routers_in, peerings_in}
use Rattle.world_runs.specs.Labs.{actors_in}
use Rattle.audit_channels.specs.Channels.{IsSquare}
use Rattle.audit_far.specs.Parts.{FarInvariant}
use Rattle.audit_far.specs.declared.far.AuditedFar.{AuditedFar}
use Rattle.audit_operator.specs.Parts.{OperatorStands}
use Rattle.audit_router.specs.Parts.{RouterInvariant, setup_of_router}
use Rattle.audit_router.specs.declared.router.AuditedRouter.{AuditedRouter}
use Rattle.run_auditor.specs.States.{StandsFor}
use Rattle.run_auditor.specs.declared.auditor.Auditor.{Auditor}

-- the router of this number is sound, and the laboratory's
pub record KeepsRouterAt (f : Auditor) (r : ℕ) (router : AuditedRouter) : Type 0 where
  pub setup : setup_of_router router ≡ f.known.setup
  pub number : router.tables.number.0 ≡ r
  pub sound : RouterInvariant router

pub record KeepsFarAt (f : Auditor) (p : ℕ) (far : AuditedFar) : Type 0 where
  pub setup : far.known.setup ≡ f.known.setup
  pub number : far.peering.0 ≡ p
  pub sound : FarInvariant far

-- The auditor stands for a world, each of its actors is sound, and there is a channel from each to each.
pub record AuditorInvariant (f : Auditor) : Type 0 where
  pub world : World
  pub stands : StandsFor f world
  pub few_routers : routers_in f.known.setup ≤ 256
  pub few_peerings : peerings_in f.known.setup ≤ 256
  pub all_routers : length f.routers.items ≡ routers_in f.known.setup
  pub all_far_sides : length f.far_sides.items ≡ peerings_in f.known.setup
  pub routers : (r : ℕ) (router : AuditedRouter) → slice_get f.routers.items r ≡ Some router → KeepsRouterAt f r router
  pub far_sides : (p : ℕ) (far : AuditedFar) → slice_get f.far_sides.items p ≡ Some far → KeepsFarAt f p far
  pub operator_setup : f.operator.known.setup ≡ f.known.setup
  pub operator : OperatorStands f.operator
  pub square : IsSquare (actors_in f.known.setup) f.inboxes.items
