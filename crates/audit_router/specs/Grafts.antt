-- Which places a graft's events find, and what they leave there.
use Rattle.std.specs.Prelude.{ℕ, ◌≡◌, Some, None}
use Rattle.bgp_session.specs.Running.{RunningSession}
use Rattle.graft_steps.specs.declared.refusal.Refusal.{Refusal}
use Rattle.graft_steps.specs.declared.order.GraftIds.{GraftIds}
use Rattle.graft_model.specs.Points.{at}
use Rattle.graft_model.specs.Parts as model
use Rattle.graft_model.specs.GraftRows.{DueAgain}
use Rattle.audit_tables.specs.Parts.{due_at}
use Rattle.audit_router.specs.Decides.{KeepsRouter}
use Rattle.audit_router.specs.Parts.{router_part}
use Rattle.audit_router.specs.Places.{AsksNext, BeginsAs, MayConfirm, place_at}
use Rattle.audit_router.specs.declared.place.Place.TheVariants.{Frozen}
use Rattle.audit_router.specs.declared.router.AuditedRouter.{AuditedRouter}

-- The graft is stored at the place of this peering, and is refused for this reason, or may begin.
abbrev pub IsRefusedAt : AuditedRouter → ℕ → ℕ → Refusal → Type 0
IsRefusedAt r k p refusal = BeginsAs k (place_at r.places.items p) (Some refusal)

abbrev pub MayFreezeAt : AuditedRouter → ℕ → ℕ → Type 0
MayFreezeAt r k p = BeginsAs k (place_at r.places.items p) None

-- a session is frozen there for the graft
pub record IsFrozenAt (r : AuditedRouter) (k p : ℕ) : Type 0 where
  pub session : RunningSession
  pub ids : GraftIds
  pub is : place_at r.places.items p ≡ Frozen session ids
  pub graft : ids.graft ≡ k

-- Word of the graft is owed there, and this router is to be asked next, or all have answered and this is the source.
abbrev pub AsksNextAt : AuditedRouter → ℕ → ℕ → ℕ → Type 0
AsksNextAt r k p q = AsksNext k (place_at r.places.items p) r.routers q

abbrev pub MayConfirmAt : AuditedRouter → ℕ → ℕ → ℕ → Type 0
MayConfirmAt r k p source = MayConfirm k (place_at r.places.items p) r.routers source

-- A session is live again at its place, without an errand, and what was told on it and what is best is due.
pub record IsLiveAgain (p : ℕ) (s : RunningSession) (old new : AuditedRouter) : Type 0 where
  pub due : DueAgain (router_part old) s.session (due_at new.tables p)
  pub effect : router_part new ≡ record (router_part old) {
    places = at (router_part old).places p (model.Live s.session None);
    due_out = at (router_part old).due_out p (due_at new.tables p);
  }
  pub keeps : KeepsRouter old new
