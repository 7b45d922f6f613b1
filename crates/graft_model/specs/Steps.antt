-- Events of the world: an actor's row, with what it takes from the heads of channels and sends to their ends; and runs of events.
use Rattle.std.specs.Prelude.{ℕ, zero, suc, fold, ◌≡◌, ◌<◌, List, [], ◌∷◌, ◌++◌, Option, Some, None, ◌⊎◌}
use Rattle.graft_model.specs.Points.{at, at2}
use Rattle.graft_model.specs.Setups.{Setup, routers_in, peerings_in}
use Rattle.graft_model.specs.Parts.{RouterPart, FarPart, OperatorPart, World}
use Rattle.graft_model.specs.RouterRows.{RouterTaken, OrderIn, SegmentIn, MeshIn, RouterSent, MeshTo, OutwardTo, ReportOut}
use Rattle.graft_model.specs.RouterRows.{PutsNothing, PutsSome, Emits, Arrives, Strays, GetsNext, Ticks}
use Rattle.graft_model.specs.TableRows.{Decides, Tells, Hears}
pub use Rattle.graft_model.specs.declared.event.RouterEvent.{RouterEvent}
pub use Rattle.graft_model.specs.declared.event.RouterEvent.TheVariants.{Put, Emit, Arrive, Stray, Got, Decide, Tell, Hear, Admit}
pub use Rattle.graft_model.specs.declared.event.RouterEvent.TheVariants.{Refuse, Freeze, Leave, Land, TurnBack, Return, Clear, Ask}
pub use Rattle.graft_model.specs.declared.event.RouterEvent.TheVariants.{Answer, Collect, Confirm, Tick}
pub use Rattle.graft_model.specs.declared.event.FarEvent.{FarEvent}
pub use Rattle.graft_model.specs.declared.event.FarEvent.TheVariants.{Say, Send, Take, Pass, Reach, Lose, Point, Beat}
pub use Rattle.graft_model.specs.declared.event.OperatorEvent.{OperatorEvent}
pub use Rattle.graft_model.specs.declared.event.OperatorEvent.TheVariants.{Order, Note, Go}
use Rattle.graft_model.specs.GraftRows.{Admits, Refuses, Freezes, Leaves, Lands, Asks, Answers, Counts, Ignores, Confirms, TurnsBack, Returns, Clears}
use Rattle.graft_model.specs.FarRows.{FarTaken, OutwardIn, SayIn, FarSent, Says, Beats, SendsSegment, TakesIn, Passes, Reaches, Loses, TurnsLink}
use Rattle.graft_model.specs.OperatorRows.{OperatorTaken, ReportIn, OperatorSent, OrderTo, SayTo, OrdersSay, OrdersGraft, Notes, BeginsGroup}
use Rattle.graft_model.specs.Quiet.{Quiet}

-- ---- events

pub data Event : Type 0 where
  ByRouter : (router : ℕ) → RouterEvent → Event
  ByFar : (peering : ℕ) → FarEvent → Event
  ByOperator : OperatorEvent → Event

-- ---- the row of each

abbrev pub put_row : Setup → ℕ → ℕ → ℕ → RouterPart → Option RouterTaken → List RouterSent → RouterPart → Type 0
put_row setup r p zero before taken sent after = PutsNothing setup r p before taken sent after
put_row setup r p (suc n) before taken sent after = PutsSome setup r p (suc n) before taken sent after

abbrev pub router_row : Setup → ℕ → RouterEvent → RouterPart → Option RouterTaken → List RouterSent → RouterPart → Type 0
router_row setup r (Put p n) before taken sent after = put_row setup r p n before taken sent after
router_row setup r (Emit p from len) before taken sent after = Emits p from len before taken sent after
router_row setup r (Arrive p) before taken sent after = Arrives p before taken sent after
router_row setup r (Stray p) before taken sent after = Strays p before taken sent after
router_row setup r (Got p) before taken sent after = GetsNext setup r p before taken sent after
router_row setup r (Decide prefix) before taken sent after = Decides setup r prefix before taken sent after
router_row setup r (Tell q prefix) before taken sent after = Tells q prefix before taken sent after
router_row setup r (Hear q) before taken sent after = Hears q before taken sent after
router_row setup r (Admit k) before taken sent after = Admits setup k before taken sent after
router_row setup r (Refuse k) before taken sent after = Refuses r k before taken sent after
router_row setup r (Freeze k) before taken sent after = Freezes r k before taken sent after
router_row setup r (Leave k) before taken sent after = Leaves k before taken sent after
router_row setup r (Land q) before taken sent after = Lands setup r q before taken sent after
router_row setup r (TurnBack q) before taken sent after = TurnsBack setup r q before taken sent after
router_row setup r (Return q) before taken sent after = Returns q before taken sent after
router_row setup r (Clear q) before taken sent after = Clears q before taken sent after
router_row setup r (Ask k q) before taken sent after = Asks setup r k q before taken sent after
router_row setup r (Answer q) before taken sent after = Answers q before taken sent after
router_row setup r (Collect q) before taken sent after = Counts q before taken sent after ⊎ Ignores q before taken sent after
router_row setup r (Confirm k) before taken sent after = Confirms setup r k before taken sent after
router_row setup r (Tick p round) before taken sent after = Ticks setup r p round before taken sent after

abbrev pub far_row : Setup → ℕ → FarEvent → FarPart → Option FarTaken → List FarSent → FarPart → Type 0
far_row setup p (Say step) before taken sent after = Says setup p step before taken sent after
far_row setup p (Send from len) before taken sent after = SendsSegment from len before taken sent after
far_row setup p (Take router) before taken sent after = TakesIn router before taken sent after
far_row setup p (Pass index keep router) before taken sent after = Passes setup index keep router before taken sent after
far_row setup p (Reach index keep) before taken sent after = Reaches index keep before taken sent after
far_row setup p (Lose way index) before taken sent after = Loses way index before taken sent after
far_row setup p (Point router) before taken sent after = TurnsLink router before taken sent after
far_row setup p (Beat round) before taken sent after = Beats setup p round before taken sent after

abbrev pub operator_row : Setup → OperatorEvent → OperatorPart → Option OperatorTaken → List OperatorSent → OperatorPart → Type 0
operator_row setup (Order step number) before taken sent after =
    OrdersSay setup step number before taken sent after ⊎ OrdersGraft setup step number before taken sent after
operator_row setup (Note router) before taken sent after = Notes router before taken sent after
operator_row setup Go before taken sent after = BeginsGroup setup before taken sent after

-- what an event of the operator requires of the whole world: the next group begins in a quiet one
abbrev pub MayMake : Setup → OperatorEvent → World → Type 0
MayMake setup (Order step number) w = Unit {0}
MayMake setup (Note router) w = Unit {0}
MayMake setup Go w = Quiet setup w

-- ---- what is taken and sent

-- a channel whose next item is this one, and the items after it
pub record Heads {A : Type 0} (channel : List A) (item : A) : Type 0 where
  pub rest : List A
  pub is : channel ≡ item ∷ rest

-- the world without the item that a router takes
abbrev pub RouterTook : World → ℕ → Option RouterTaken → World → Type 0
RouterTook w r None u = u ≡ w
RouterTook w r (Some (OrderIn order)) u = (h : Heads (w.orders r) order) × (u ≡ record w { orders = at w.orders r h.rest })
RouterTook w r (Some (SegmentIn p segment)) u = (h : Heads (w.inward p r) segment) × (u ≡ record w { inward = at2 w.inward p r h.rest })
RouterTook w r (Some (MeshIn q item)) u = (h : Heads (w.mesh q r) item) × (u ≡ record w { mesh = at2 w.mesh q r h.rest })

abbrev pub FarTook : World → ℕ → Option FarTaken → World → Type 0
FarTook w p None u = u ≡ w
FarTook w p (Some (OutwardIn r item)) u = (h : Heads (w.outward r p) item) × (u ≡ record w { outward = at2 w.outward r p h.rest })
FarTook w p (Some (SayIn step)) u = (h : Heads (w.says p) step) × (u ≡ record w { says = at w.says p h.rest })

abbrev pub OperatorTook : World → Option OperatorTaken → World → Type 0
OperatorTook w None u = u ≡ w
OperatorTook w (Some (ReportIn r report)) u = (h : Heads (w.reports r) report) × (u ≡ record w { reports = at w.reports r h.rest })

-- the world with one more item at the end of its channel
abbrev pub router_sends : ℕ → World → RouterSent → World
router_sends r w (MeshTo q item) = record w { mesh = at2 w.mesh r q (w.mesh r q ++ item ∷ []) }
router_sends r w (OutwardTo p item) = record w { outward = at2 w.outward r p (w.outward r p ++ item ∷ []) }
router_sends r w (ReportOut report) = record w { reports = at w.reports r (w.reports r ++ report ∷ []) }

abbrev pub far_sends : ℕ → World → FarSent → World
far_sends p w s = record w { inward = at2 w.inward p s.router (w.inward p s.router ++ s.segment ∷ []) }

abbrev pub operator_sends : World → OperatorSent → World
operator_sends w (OrderTo r order) = record w { orders = at w.orders r (w.orders r ++ order ∷ []) }
operator_sends w (SayTo p step) = record w { says = at w.says p (w.says p ++ step ∷ []) }

-- ---- steps

pub record RouterStep (setup : Setup) (r : ℕ) (event : RouterEvent) (before after : World) : Type 0 where
  pub known : r < routers_in setup
  pub taken : Option RouterTaken
  pub sent : List RouterSent
  pub part : RouterPart
  pub row : router_row setup r event (before.router r) taken sent part
  pub without : World
  pub took : RouterTook before r taken without
  pub is : after ≡ fold (router_sends r) (record without { router = at without.router r part }) sent

pub record FarStep (setup : Setup) (p : ℕ) (event : FarEvent) (before after : World) : Type 0 where
  pub known : p < peerings_in setup
  pub taken : Option FarTaken
  pub sent : List FarSent
  pub part : FarPart
  pub row : far_row setup p event (before.far p) taken sent part
  pub without : World
  pub took : FarTook before p taken without
  pub is : after ≡ fold (far_sends p) (record without { far = at without.far p part }) sent

pub record OperatorStep (setup : Setup) (event : OperatorEvent) (before after : World) : Type 0 where
  pub may : MayMake setup event before
  pub taken : Option OperatorTaken
  pub sent : List OperatorSent
  pub part : OperatorPart
  pub row : operator_row setup event before.operator taken sent part
  pub without : World
  pub took : OperatorTook before taken without
  pub is : after ≡ fold operator_sends (record without { operator = part }) sent

abbrev pub Step : Setup → Event → World → World → Type 0
Step setup (ByRouter r event) before after = RouterStep setup r event before after
Step setup (ByFar p event) before after = FarStep setup p event before after
Step setup (ByOperator event) before after = OperatorStep setup event before after

-- a list of events leads from one world to another
abbrev pub Run : Setup → World → List Event → World → Type 0
Run setup w [] v = v ≡ w
Run setup w (event ∷ events) v = (u : World) × Step setup event w u × Run setup u events v
