-- When an answer to an event is right, by the event's row in the model.
use Rattle.std.specs.Prelude.{ℕ, ◌≡◌, List, [], ◌∷◌, Option, Some, None, map}
use Rattle.std.specs.List.{AllByRecursion}
use Rattle.bgp_session.specs.Running.{RunningSession, carried}
use Rattle.graft_steps.specs.declared.item.Item.{Item}
use Rattle.graft_model.specs.Setups.{Setup}
use Rattle.graft_model.specs.Parts.{RouterPart, FarPart, OperatorPart}
use Rattle.graft_model.specs.RouterRows.{RouterTaken, OrderIn, SegmentIn, MeshIn}
use Rattle.graft_model.specs.FarRows.{FarTaken, OutwardIn, SayIn}
use Rattle.graft_model.specs.OperatorRows.{OperatorTaken, ReportIn}
use Rattle.graft_model.specs.declared.event.RouterEvent.{RouterEvent}
use Rattle.graft_model.specs.declared.event.FarEvent.{FarEvent}
use Rattle.graft_model.specs.declared.event.OperatorEvent.{OperatorEvent}
use Rattle.graft_model.specs.Steps.{router_row, far_row, operator_row}
use Rattle.graft_actors.specs.Actors.{ActorName, Router, FarSide, Operator, IsActor, RouterIs, FarIs, OperatorIs}
use Rattle.graft_actors.specs.Actors.{Thing, MeshItem, OutwardItem, SegmentItem, OrderItem, ReportItem, StepItem}
use Rattle.graft_actors.specs.Acts.{OwnPart, SendsFit, things}
use Rattle.graft_actors.specs.Items.{thing_of}
use Rattle.graft_actors.specs.Makes.{numbered, sent_by_router, sent_by_far, sent_by_operator}
use Rattle.audit_ruling.specs.declared.ruling.Ruling.{Ruling}
use Rattle.audit_ruling.specs.declared.ruling.Ruling.TheVariants.{Refused, Silent, Sends}

-- an item on its way, as a capsule's session makes it
abbrev pub Parcel : Type 0
Parcel = Item RunningSession

module _ {P T S : Type 0} (Row : P → Option T → List S → P → Type 0) (gives : S → ActorName × Thing) where
  -- The row holds of the part before, of what is taken and of the part after, and what it sends are these items, which may go where they are sent,
  -- to actors that exist.
  pub record Holds (own : OwnPart) (before : P) (taken : Option T) (sent : List (ℕ × Parcel)) (after : P) : Type 0 where
    pub gave : List S
    pub row : Row before taken gave after
    pub is_sent : things carried own.setup sent ≡ map (λ s. numbered own.setup (gives s)) gave
    pub there : AllByRecursion (λ s. IsActor own.setup (gives s).0) gave
    pub fit : SendsFit carried own sent

  -- the row holds of no items that are sent, and of no part after
  abbrev pub HoldsNever : P → Option T → Type 0
  HoldsNever before taken = (gave : List S) (after : P) → ¬ Row before taken gave after

  -- The answer to an event that takes this, or nothing: the row holds, or it never does and the part stays.
  abbrev pub Rules : OwnPart → P → Option T → Ruling → P → Type 0
  Rules own before taken Refused after = (after ≡ before) × HoldsNever before taken
  Rules own before taken Silent after = Holds own before taken [] after
  Rules own before taken (Sends to item) after = Holds own before taken ((to, item) ∷ []) after

  -- The row holds of the first item of a channel, which is taken out.
  pub record HoldsTaking (takes : Parcel → Option T) (own : OwnPart) (before : P) (channel : List Parcel)
      (sent : List (ℕ × Parcel)) (after : P) (rest : List Parcel) : Type 0 where
    pub item : Parcel
    pub first : channel ≡ item ∷ rest
    pub holds : Holds own before (takes item) sent after

  -- The answer to an event that takes the first item of a channel: it is taken and the row holds, or the channel is empty or the row never holds of its
  -- first item, and part and channel stay.
  abbrev pub RulesTaking : (Parcel → Option T) → OwnPart → P → List Parcel → Ruling → P → List Parcel → Type 0
  RulesTaking takes own before channel Refused after rest =
      (after ≡ before) × (rest ≡ channel) × ((item : Parcel) (more : List Parcel) → channel ≡ item ∷ more → HoldsNever before (takes item))
  RulesTaking takes own before channel Silent after rest = HoldsTaking takes own before channel [] after rest
  RulesTaking takes own before channel (Sends to item) after rest = HoldsTaking takes own before channel ((to, item) ∷ []) after rest

-- ---- what is taken from whom

abbrev pub router_takes : ActorName → Thing → Option RouterTaken
router_takes (Router q) (MeshItem item) = Some (MeshIn q item)
router_takes (FarSide p) (SegmentItem segment) = Some (SegmentIn p segment)
router_takes Operator (OrderItem order) = Some (OrderIn order)
router_takes from thing = None

abbrev pub far_takes : ActorName → Thing → Option FarTaken
far_takes (Router r) (OutwardItem item) = Some (OutwardIn r item)
far_takes Operator (StepItem step) = Some (SayIn step)
far_takes from thing = None

abbrev pub operator_takes : ActorName → Thing → Option OperatorTaken
operator_takes (Router r) (ReportItem report) = Some (ReportIn r report)
operator_takes from thing = None

-- ---- the three kinds of actors

abbrev pub router_own : Setup → ℕ → RouterPart → OwnPart
router_own setup r part = record { setup = setup; name = Router r; part = RouterIs part }

abbrev pub far_own : Setup → ℕ → FarPart → OwnPart
far_own setup p part = record { setup = setup; name = FarSide p; part = FarIs part }

abbrev pub operator_own : Setup → OperatorPart → OwnPart
operator_own setup part = record { setup = setup; name = Operator; part = OperatorIs part }

-- a router's event that takes nothing
abbrev pub RouterRules : Setup → ℕ → RouterEvent → RouterPart → Ruling → RouterPart → Type 0
RouterRules setup r event before ruling after = Rules (router_row setup r event) sent_by_router (router_own setup r before) before None ruling after

-- one that takes the first item from this actor
abbrev pub RouterRulesTaking : Setup → ℕ → RouterEvent → ActorName → RouterPart → List Parcel → Ruling → RouterPart → List Parcel → Type 0
RouterRulesTaking setup r event from before channel ruling after rest =
    RulesTaking (router_row setup r event) sent_by_router (λ item. router_takes from (thing_of carried setup item))
    (router_own setup r before) before channel ruling after rest

abbrev pub FarRules : Setup → ℕ → FarEvent → FarPart → Ruling → FarPart → Type 0
FarRules setup p event before ruling after = Rules (far_row setup p event) sent_by_far (far_own setup p before) before None ruling after

abbrev pub FarRulesTaking : Setup → ℕ → FarEvent → ActorName → FarPart → List Parcel → Ruling → FarPart → List Parcel → Type 0
FarRulesTaking setup p event from before channel ruling after rest =
    RulesTaking (far_row setup p event) sent_by_far (λ item. far_takes from (thing_of carried setup item))
    (far_own setup p before) before channel ruling after rest

abbrev pub OperatorRules : Setup → OperatorEvent → OperatorPart → Ruling → OperatorPart → Type 0
OperatorRules setup event before ruling after = Rules (operator_row setup event) sent_by_operator (operator_own setup before) before None ruling after

abbrev pub OperatorRulesTaking : Setup → OperatorEvent → ActorName → OperatorPart → List Parcel → Ruling → OperatorPart → List Parcel → Type 0
OperatorRulesTaking setup event from before channel ruling after rest =
    RulesTaking (operator_row setup event) sent_by_operator (λ item. operator_takes from (thing_of carried setup item))
    (operator_own setup before) before channel ruling after rest
