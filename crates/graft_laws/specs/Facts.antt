-- Consequences for the actors: no item arrives that would have to be dropped, a session is at one place, and a graft is in one phase.
use Rattle.std.specs.Prelude.{ℕ, ◌≡◌, ◌≢◌, ◌<◌, [], Some}
use Rattle.std.specs.List.{flat_map}
use Rattle.session_value.specs.Sessions.{SessionValue}
use Rattle.graft_model.specs.Setups.{Setup, peerings_in}
use Rattle.graft_model.specs.Parts.{World}
use Rattle.graft_model.specs.RouterRows.{RouterTaken}
use Rattle.graft_model.specs.FarRows.{FarTaken}
use Rattle.graft_model.specs.OperatorRows.{OperatorTaken}
use Rattle.graft_model.specs.Taking.{RouterMayTake, FarMayTake, OperatorMayTake}
use Rattle.graft_model.specs.Claims.{sessions_at, sessions_on}
use Rattle.graft_laws.specs.Phases.{Stage, Busy}
use Rattle.graft_laws.specs.Owned.{Stands}
use Rattle.graft_laws.specs.Moves.{RouterHeads, FarHeads, OperatorHeads}

-- ---- items

-- Each actor may take the next item of each channel that leads to it.
pub record NothingIsDropped (setup : Setup) (w : World) : Type 0 where
  pub routers : (r : ℕ) (taken : RouterTaken) → RouterHeads w r (Some taken) → RouterMayTake setup (w.router r) taken
  pub far_sides : (p : ℕ) (taken : FarTaken) → p < peerings_in setup → FarHeads w p (Some taken) → FarMayTake setup p (w.far p) taken
  pub operator : (taken : OperatorTaken) → OperatorHeads w (Some taken) → OperatorMayTake w.operator taken

-- ---- sessions

-- no other router than r has a session of the peering, and none is on its way
pub record IsNowhereElse (w : World) (p r : ℕ) : Type 0 where
  pub places : (x : ℕ) → x ≢ r → sessions_at ((w.router x).places p) ≡ []
  pub channels : (a b : ℕ) → flat_map (sessions_on p) (w.mesh a b) ≡ []

-- ---- grafts

-- the graft is under way from this source in one phase, and in no other
pub record IsUnderWay (setup : Setup) (w : World) (p source graft target : ℕ) : Type 0 where
  pub stage : Stage
  pub session : SessionValue
  pub stands : Stands setup w p (Busy source graft target stage) session
  pub one : (x q t : ℕ) (other : Stage) (s : SessionValue) → Stands setup w x (Busy q graft t other) s
      → (x ≡ p) × (Busy q graft t other ≡ Busy source graft target stage)
