-- A step in equations: for each channel, what was taken and what is left are together what was there and what was sent.
use Rattle.std.specs.Prelude.{ℕ, ◌≡◌, List, [], ◌∷◌, ◌++◌, Option, Some, None}
use Rattle.tcp_seq.specs.Endpoint.{PlacedSegment}
use Rattle.graft_model.specs.Points.{at}
use Rattle.graft_model.specs.Parts.{RouterPart, FarPart, OperatorPart, Mesh, Outward, GraftOrder, Report, World}
use Rattle.graft_model.specs.RouterRows.{RouterTaken, OrderIn, SegmentIn, MeshIn, RouterSent, MeshTo, OutwardTo, ReportOut}
use Rattle.graft_model.specs.FarRows.{FarTaken, OutwardIn, SayIn, FarSent}
use Rattle.graft_model.specs.OperatorRows.{OperatorTaken, ReportIn, OperatorSent, OrderTo, SayTo}
use Rattle.graft_model.specs.Steps.{Heads}
use Rattle.graft_laws.specs.Phases.{only_at, only2}

-- ---- what a router takes and sends, by channels

abbrev pub mesh_taken : ℕ → Option RouterTaken → ℕ → ℕ → List Mesh
mesh_taken r (Some (MeshIn q item)) a b = only2 q r item a b
mesh_taken r taken a b = []

abbrev pub inward_taken : ℕ → Option RouterTaken → ℕ → ℕ → List PlacedSegment
inward_taken r (Some (SegmentIn p segment)) q b = only2 p r segment q b
inward_taken r taken q b = []

abbrev pub orders_taken : ℕ → Option RouterTaken → ℕ → List GraftOrder
orders_taken r (Some (OrderIn order)) b = only_at r order b
orders_taken r taken b = []

abbrev pub mesh_sent : ℕ → List RouterSent → ℕ → ℕ → List Mesh
mesh_sent r [] a b = []
mesh_sent r (MeshTo q item ∷ sent) a b = only2 r q item a b ++ mesh_sent r sent a b
mesh_sent r (OutwardTo p item ∷ sent) a b = mesh_sent r sent a b
mesh_sent r (ReportOut report ∷ sent) a b = mesh_sent r sent a b

abbrev pub outward_sent : ℕ → List RouterSent → ℕ → ℕ → List Outward
outward_sent r [] a p = []
outward_sent r (MeshTo q item ∷ sent) a p = outward_sent r sent a p
outward_sent r (OutwardTo q item ∷ sent) a p = only2 r q item a p ++ outward_sent r sent a p
outward_sent r (ReportOut report ∷ sent) a p = outward_sent r sent a p

abbrev pub reports_sent : ℕ → List RouterSent → ℕ → List Report
reports_sent r [] a = []
reports_sent r (MeshTo q item ∷ sent) a = reports_sent r sent a
reports_sent r (OutwardTo p item ∷ sent) a = reports_sent r sent a
reports_sent r (ReportOut report ∷ sent) a = only_at r report a ++ reports_sent r sent a

-- what is taken is at the head of its channel
abbrev pub RouterHeads : World → ℕ → Option RouterTaken → Type 0
RouterHeads w r None = Unit {0}
RouterHeads w r (Some (OrderIn order)) = Heads (w.orders r) order
RouterHeads w r (Some (SegmentIn p segment)) = Heads (w.inward p r) segment
RouterHeads w r (Some (MeshIn q item)) = Heads (w.mesh q r) item

-- The world after an event of the router r that takes and sends these items and results in this part.
pub record RouterMoves (r : ℕ) (taken : Option RouterTaken) (sent : List RouterSent) (part : RouterPart) (before after : World) : Type 0 where
  pub heads : RouterHeads before r taken
  pub router : after.router ≡ at before.router r part
  pub far : after.far ≡ before.far
  pub operator : after.operator ≡ before.operator
  pub mesh : (a b : ℕ) → mesh_taken r taken a b ++ after.mesh a b ≡ before.mesh a b ++ mesh_sent r sent a b
  pub outward : (a p : ℕ) → after.outward a p ≡ before.outward a p ++ outward_sent r sent a p
  pub inward : (p b : ℕ) → inward_taken r taken p b ++ after.inward p b ≡ before.inward p b
  pub orders : (b : ℕ) → orders_taken r taken b ++ after.orders b ≡ before.orders b
  pub reports : (a : ℕ) → after.reports a ≡ before.reports a ++ reports_sent r sent a
  pub says : after.says ≡ before.says

-- ---- what a far side takes and sends

abbrev pub outward_taken : ℕ → Option FarTaken → ℕ → ℕ → List Outward
outward_taken p (Some (OutwardIn r item)) a q = only2 r p item a q
outward_taken p taken a q = []

abbrev pub says_taken : ℕ → Option FarTaken → ℕ → List ℕ
says_taken p (Some (SayIn step)) q = only_at p step q
says_taken p taken q = []

abbrev pub inward_sent : ℕ → List FarSent → ℕ → ℕ → List PlacedSegment
inward_sent p [] q b = []
inward_sent p (item ∷ sent) q b = only2 p item.router item.segment q b ++ inward_sent p sent q b

abbrev pub FarHeads : World → ℕ → Option FarTaken → Type 0
FarHeads w p None = Unit {0}
FarHeads w p (Some (OutwardIn r item)) = Heads (w.outward r p) item
FarHeads w p (Some (SayIn step)) = Heads (w.says p) step

pub record FarMoves (p : ℕ) (taken : Option FarTaken) (sent : List FarSent) (part : FarPart) (before after : World) : Type 0 where
  pub heads : FarHeads before p taken
  pub router : after.router ≡ before.router
  pub far : after.far ≡ at before.far p part
  pub operator : after.operator ≡ before.operator
  pub mesh : after.mesh ≡ before.mesh
  pub outward : (a q : ℕ) → outward_taken p taken a q ++ after.outward a q ≡ before.outward a q
  pub inward : (q b : ℕ) → after.inward q b ≡ before.inward q b ++ inward_sent p sent q b
  pub orders : after.orders ≡ before.orders
  pub reports : after.reports ≡ before.reports
  pub says : (q : ℕ) → says_taken p taken q ++ after.says q ≡ before.says q

-- ---- what the operator takes and sends

abbrev pub reports_taken : Option OperatorTaken → ℕ → List Report
reports_taken None a = []
reports_taken (Some (ReportIn r report)) a = only_at r report a

abbrev pub orders_sent : List OperatorSent → ℕ → List GraftOrder
orders_sent [] b = []
orders_sent (OrderTo r order ∷ sent) b = only_at r order b ++ orders_sent sent b
orders_sent (SayTo p step ∷ sent) b = orders_sent sent b

abbrev pub says_sent : List OperatorSent → ℕ → List ℕ
says_sent [] q = []
says_sent (OrderTo r order ∷ sent) q = says_sent sent q
says_sent (SayTo p step ∷ sent) q = only_at p step q ++ says_sent sent q

abbrev pub OperatorHeads : World → Option OperatorTaken → Type 0
OperatorHeads w None = Unit {0}
OperatorHeads w (Some (ReportIn r report)) = Heads (w.reports r) report

pub record OperatorMoves (taken : Option OperatorTaken) (sent : List OperatorSent) (part : OperatorPart) (before after : World) : Type 0 where
  pub heads : OperatorHeads before taken
  pub router : after.router ≡ before.router
  pub far : after.far ≡ before.far
  pub operator : after.operator ≡ part
  pub mesh : after.mesh ≡ before.mesh
  pub outward : after.outward ≡ before.outward
  pub inward : after.inward ≡ before.inward
  pub orders : (b : ℕ) → after.orders b ≡ before.orders b ++ orders_sent sent b
  pub reports : (a : ℕ) → reports_taken taken a ++ after.reports a ≡ before.reports a
  pub says : (q : ℕ) → after.says q ≡ before.says q ++ says_sent sent q
