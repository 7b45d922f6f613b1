-- Ownership: for each peering a phase and one session say what is in every place, in every channel and in the log.
use Rattle.std.specs.Prelude.{ℕ, ◌==◌, ◌≡◌, ◌≤◌, ◌<◌, Bool, false, List, [], filter, IsSome}
use Rattle.std.specs.List.{AllByRecursion}
use Rattle.session_value.specs.Sessions.{SessionValue}
use Rattle.graft_model.specs.Setups.{Setup, routers_in, peerings_in, room_of, graft_at}
use Rattle.graft_model.specs.Parts.{Vacant, Mesh, Told, Moved, Back, Asked, Answered, Done, GraftOrder, Report, To, World}
use Rattle.graft_model.specs.GraftRows.{taken_in}
use Rattle.graft_laws.specs.Phases.{Phase, place_by, mesh_by, orders_by, reports_by, InBounds}
use Rattle.graft_laws.specs.Log.{is_graft_on, LogSays}

-- ---- what channels have of a peering: sessions, and word of landings; questions and answers are in no count

abbrev pub is_on : ℕ → Mesh → Bool
is_on p (Told prefix route) = false
is_on p (Moved graft q session) = q == p
is_on p (Back graft q session refusal) = q == p
is_on p (Asked graft q) = false
is_on p (Answered graft q) = false
is_on p (Done graft q) = q == p

abbrev pub mesh_items_on : ℕ → List Mesh → List Mesh
mesh_items_on p items = filter (is_on p) items

abbrev pub orders_of : ℕ → List GraftOrder → List GraftOrder
orders_of p orders = filter (λ o. o.peering == p) orders

-- reports name no peering: it is that of their graft in the script
abbrev pub reports_of : Setup → ℕ → List Report → List Report
reports_of setup p reports = filter (λ o. is_graft_on setup p o.graft) reports

-- ---- where things stand

-- The world has just what this phase says of the peering p, with this session.
pub record Stands (setup : Setup) (w : World) (p : ℕ) (phase : Phase) (session : SessionValue) : Type 0 where
  pub places : (r : ℕ) → (w.router r).places p ≡ place_by phase session r
  pub mesh : (a b : ℕ) → mesh_items_on p (w.mesh a b) ≡ mesh_by phase p session a b
  pub orders : (r : ℕ) → orders_of p (w.orders r) ≡ orders_by phase p r
  pub reports : (r : ℕ) → reports_of setup p (w.reports r) ≡ reports_by phase r
  pub log : LogSays setup w.operator p phase
  pub bounds : InBounds setup phase

-- a peering is in some phase, with some session
pub record IsInSomePhase (setup : Setup) (w : World) (p : ℕ) : Type 0 where
  pub phase : Phase
  pub session : SessionValue
  pub stands : Stands setup w p phase session

-- The world has nothing of a peering.
pub record HasNothingOf (w : World) (p : ℕ) : Type 0 where
  pub places : (r : ℕ) → (w.router r).places p ≡ Vacant
  pub mesh : (a b : ℕ) → mesh_items_on p (w.mesh a b) ≡ []
  pub orders : (r : ℕ) → orders_of p (w.orders r) ≡ []

-- Each peering of the setup is in some phase, and the world has nothing of any other. No router has more places taken than it has room for, every
-- report is of a graft of the script, and each router to which an evacuate step gave a session exists.
pub record Owned (setup : Setup) (w : World) : Type 0 where
  pub peerings : (p : ℕ) → p < peerings_in setup → IsInSomePhase setup w p
  pub no_others : (p : ℕ) → peerings_in setup ≤ p → HasNothingOf w p
  pub room : (r : ℕ) → r < routers_in setup → taken_in setup (w.router r) ≤ room_of setup r
  pub reports : (r : ℕ) → AllByRecursion (λ o. IsSome (graft_at setup o.graft)) (w.reports r)
  pub given : (k target : ℕ) → w.operator.given k ≡ To target → target < routers_in setup
