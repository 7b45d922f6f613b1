-- Actors that have nothing left to do.
use Rattle.std.specs.Prelude.{ℕ, ◌≡◌, ◌↔◌, [], All, Bool, IsTrue}
use Rattle.graft_steps.specs.declared.rest.Pending.{Pending}
use Rattle.graft_model.specs.Parts.{World}
use Rattle.graft_model.specs.Quiet.{Quiet}
use Rattle.settled_check.specs.Left.{LeftAtFar, LeftAtRouter}
use Rattle.audit_channels.specs.Channels.{parcels}
use Rattle.audit_far.specs.Parts.{far_part}
use Rattle.audit_far.specs.declared.far.AuditedFar.{AuditedFar}
use Rattle.audit_operator.specs.Decides.{NothingIsLeft}
use Rattle.audit_router.specs.Parts.{router_part}
use Rattle.audit_router.specs.declared.router.AuditedRouter.{AuditedRouter}
use Rattle.run_auditor.specs.States.{StandsFor}
use Rattle.run_auditor.specs.declared.auditor.Auditor.{Auditor}

abbrev pub FarRests : AuditedFar → Type 0
FarRests far = (x : Pending) → ¬ LeftAtFar far.peering.0 (far_part far) x

abbrev pub RouterRests : AuditedRouter → Type 0
RouterRests router = (x : Pending) → ¬ LeftAtRouter router.tables.number.0 (router_part router) x

-- nothing is on its way, and no actor has anything left to do
pub record AllRest (f : Auditor) : Type 0 where
  pub channels : (a b : ℕ) → parcels f.inboxes.items a b ≡ []
  pub of_operator : NothingIsLeft f.operator
  pub far_sides : All FarRests f.far_sides.items
  pub routers : All RouterRests f.routers.items

-- whether nothing is left to the auditor's actors, which is whether its world is quiet
pub record TellsQuiet (f : Auditor) (answer : Bool) : Type 0 where
  pub rest : IsTrue answer ↔ AllRest f
  pub quiet : (w : World) → StandsFor f w → IsTrue answer ↔ Quiet f.known.setup w
