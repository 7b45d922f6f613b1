-- What a step doesn't change, what may happen in a quiet world, and the events to which the laws of rows apply.
use Rattle.std.specs.Prelude.{ℕ, ◌≡◌, ◌≢◌, List, [], Option, Some, None}
use Rattle.session_value.specs.Sessions.{SessionValue}
use Rattle.graft_model.specs.Parts.{Place, Vacant, Live, Frozen, Shadow, graft_of, RouterPart, World}
use Rattle.graft_model.specs.RouterRows.{RouterTaken, OrderIn, SegmentIn, MeshIn, RouterSent, MeshTo, OutwardTo, ReportOut}
use Rattle.graft_model.specs.Claims.{sessions_on}
use Rattle.graft_model.specs.Steps.{RouterEvent, Put, Emit, Arrive, Got, Refuse, Freeze, Leave, Ask, Confirm}
use Rattle.graft_model.specs.Steps.{Tick, Send, Beat, Go, Event, ByRouter, ByFar, ByOperator}

-- A router's event changes that router's part, and channels from it or to it.
pub record LeavesByRouter (r : ℕ) (before after : World) : Type 0 where
  pub routers : (q : ℕ) → q ≢ r → after.router q ≡ before.router q
  pub far : after.far ≡ before.far
  pub operator : after.operator ≡ before.operator
  pub mesh : (a b : ℕ) → a ≢ r → b ≢ r → after.mesh a b ≡ before.mesh a b
  pub outward : (a p : ℕ) → a ≢ r → after.outward a p ≡ before.outward a p
  pub inward : (p b : ℕ) → b ≢ r → after.inward p b ≡ before.inward p b
  pub orders : (b : ℕ) → b ≢ r → after.orders b ≡ before.orders b
  pub reports : (a : ℕ) → a ≢ r → after.reports a ≡ before.reports a
  pub says : after.says ≡ before.says

-- A far side's event changes that far side's part, and channels from it or to it.
pub record LeavesByFar (p : ℕ) (before after : World) : Type 0 where
  pub routers : after.router ≡ before.router
  pub far : (q : ℕ) → q ≢ p → after.far q ≡ before.far q
  pub operator : after.operator ≡ before.operator
  pub mesh : after.mesh ≡ before.mesh
  pub outward : (r q : ℕ) → q ≢ p → after.outward r q ≡ before.outward r q
  pub inward : (q r : ℕ) → q ≢ p → after.inward q r ≡ before.inward q r
  pub orders : after.orders ≡ before.orders
  pub reports : after.reports ≡ before.reports
  pub says : (q : ℕ) → q ≢ p → after.says q ≡ before.says q

-- An event of the operator changes its part, and channels from it or to it.
pub record LeavesByOperator (before after : World) : Type 0 where
  pub routers : after.router ≡ before.router
  pub far : after.far ≡ before.far
  pub mesh : after.mesh ≡ before.mesh
  pub outward : after.outward ≡ before.outward
  pub inward : after.inward ≡ before.inward

-- What may happen though nothing is left to do: segments are sent again or without bytes, rounds pass, and the next group begins.
abbrev pub MayStillHappen : Event → Type 0
MayStillHappen (ByRouter r (Emit p from len)) = Unit {0}
MayStillHappen (ByRouter r (Tick p round)) = Unit {0}
MayStillHappen (ByFar p (Send from len)) = Unit {0}
MayStillHappen (ByFar p (Beat round)) = Unit {0}
MayStillHappen (ByOperator Go) = Unit {0}
MayStillHappen event = ⊥

-- ---- one outcome

-- the session of a place has an errand for the graft of this number, or is frozen for it
abbrev pub HasGraft : ℕ → Place → Type 0
HasGraft k Vacant = ⊥
HasGraft k (Live session None) = ⊥
HasGraft k (Live session (Some errand)) = graft_of errand ≡ k
HasGraft k (Frozen session order) = order.graft ≡ k
HasGraft k (Shadow graft) = ⊥

-- no two places of a router have the graft
abbrev pub HasOnce : ℕ → RouterPart → Type 0
HasOnce k part = (p q : ℕ) → HasGraft k (part.places p) → HasGraft k (part.places q) → p ≡ q

-- An event of a router has only one outcome. An event that names its place only by a graft does if the graft is at one place.
abbrev pub HasOneOutcome : RouterEvent → RouterPart → Type 0
HasOneOutcome (Refuse k) part = HasOnce k part
HasOneOutcome (Freeze k) part = HasOnce k part
HasOneOutcome (Leave k) part = HasOnce k part
HasOneOutcome (Ask k q) part = HasOnce k part
HasOneOutcome (Confirm k) part = HasOnce k part
HasOneOutcome event part = Unit {0}

-- ---- sessions on their way

-- the sessions of a peering in what a router takes, and in an item that it sends
abbrev pub taken_on : ℕ → Option RouterTaken → List SessionValue
taken_on p None = []
taken_on p (Some (OrderIn order)) = []
taken_on p (Some (SegmentIn q segment)) = []
taken_on p (Some (MeshIn q item)) = sessions_on p item

abbrev pub sent_on : ℕ → RouterSent → List SessionValue
sent_on p (MeshTo q item) = sessions_on p item
sent_on p (OutwardTo q item) = []
sent_on p (ReportOut report) = []

-- The event changes no session. These are all but the five by which a session puts, emits, takes in, gets or has a round pass.
abbrev pub KeepsSessions : RouterEvent → Type 0
KeepsSessions (Put p n) = ⊥
KeepsSessions (Emit p from len) = ⊥
KeepsSessions (Arrive p) = ⊥
KeepsSessions (Got p) = ⊥
KeepsSessions (Tick p round) = ⊥
KeepsSessions event = Unit {0}
