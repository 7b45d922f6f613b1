-- A session that comes to a router.
use Rattle.std.specs.Prelude.{ℕ, ◌≡◌, ◌<◌, List, ◌∷◌, Option, Some}
use Rattle.bgp_session.specs.Running.{RunningSession}
use Rattle.graft_steps.specs.declared.item.Item.TheVariants as items
use Rattle.graft_steps.specs.declared.refusal.Refusal.{Refusal}
use Rattle.session_value.specs.Sets.{Marks}
use Rattle.graft_model.specs.Points.{at}
use Rattle.graft_model.specs.Setups.{peerings_in}
use Rattle.graft_model.specs.Parts as model
use Rattle.graft_model.specs.RouterRows.{BringsIn}
use Rattle.graft_model.specs.GraftRows.{DueAgain, refusal_of}
use Rattle.audit_ruling.specs.Rulings.{Parcel}
use Rattle.audit_tables.specs.Parts.{due_at, entries_at}
use Rattle.audit_router.specs.Decides.{KeepsRouter}
use Rattle.audit_router.specs.Parts.{router_part, setup_of_router}
use Rattle.audit_router.specs.declared.router.AuditedRouter.{AuditedRouter}

-- The next item is a session whose place here is vacant, and this is why it isn't taken in, if there is a reason.
pub record ComesTo (r : AuditedRouter) (channel : List Parcel) (refusal : Option Refusal) : Type 0 where
  pub graft : ℕ
  pub session : RunningSession
  pub rest : List Parcel
  pub is : channel ≡ items.Moved graft session ∷ rest
  pub known : session.session.config.peering.0 < peerings_in (setup_of_router r)
  pub vacant : (router_part r).places session.session.config.peering.0 ≡ model.Vacant
  pub refused : refusal_of (setup_of_router r) r.tables.number.0 (router_part r) session.session ≡ refusal

-- A session from this router has landed in this graft: its routes are taken in, it is live, and word of that is owed.
pub record SettlesIn (q graft : ℕ) (s : RunningSession) (old new : AuditedRouter) : Type 0 where
  pub entries : BringsIn (setup_of_router old) old.tables.number.0 s.session (entries_at new.tables s.session.config.peering.0)
  pub dirty : Marks (router_part old).dirty (entries_at old.tables s.session.config.peering.0)
      (entries_at new.tables s.session.config.peering.0) (router_part new).dirty
  pub due : DueAgain (router_part old) s.session (due_at new.tables s.session.config.peering.0)
  pub effect : router_part new ≡ record (router_part old) {
    places = at (router_part old).places s.session.config.peering.0
        (model.Live s.session (Some (model.Owing (record { graft = graft; source = q; next = 0 }))));
    entries = at (router_part old).entries s.session.config.peering.0 (entries_at new.tables s.session.config.peering.0);
    dirty = (router_part new).dirty;
    due_out = at (router_part old).due_out s.session.config.peering.0 (due_at new.tables s.session.config.peering.0);
  }
  pub keeps : KeepsRouter old new
