-- The actors of an auditor as they begin.
use Rattle.std.specs.Prelude.{ℕ, ◌≡◌, List, length, Some, slice_get}
use Rattle.graft_model.specs.Setups.{Setup, routers_in, peerings_in}
use Rattle.graft_model.specs.First.{first_router, first_far}
use Rattle.audit_far.specs.Parts.{FarInvariant, far_part}
use Rattle.audit_far.specs.declared.far.AuditedFar.{AuditedFar}
use Rattle.audit_router.specs.Parts.{RouterInvariant, router_part, setup_of_router}
use Rattle.audit_router.specs.declared.router.AuditedRouter.{AuditedRouter}

pub record IsFirstRouter (setup : Setup) (r : ℕ) (router : AuditedRouter) : Type 0 where
  pub setup_is : setup_of_router router ≡ setup
  pub number : router.tables.number.0 ≡ r
  pub first : router_part router ≡ first_router setup r
  pub sound : RouterInvariant router

pub record IsFirstFarSide (setup : Setup) (p : ℕ) (far : AuditedFar) : Type 0 where
  pub setup_is : far.known.setup ≡ setup
  pub number : far.peering.0 ≡ p
  pub first : far_part far ≡ first_far (slice_get setup.peerings p)
  pub sound : FarInvariant far

-- all routers, and all far sides, of the laboratory
pub record AreFirstRouters (setup : Setup) (routers : List AuditedRouter) : Type 0 where
  pub all : length routers ≡ routers_in setup
  pub each : (r : ℕ) (router : AuditedRouter) → slice_get routers r ≡ Some router → IsFirstRouter setup r router

pub record AreFirstFarSides (setup : Setup) (far_sides : List AuditedFar) : Type 0 where
  pub all : length far_sides ≡ peerings_in setup
  pub each : (p : ℕ) (far : AuditedFar) → slice_get far_sides p ≡ Some far → IsFirstFarSide setup p far
