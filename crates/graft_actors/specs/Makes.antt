-- Which events an actor of a net may make: those of its rows in the model.
use Rattle.std.specs.Prelude.{ℕ, ◌≡◌, List, [], ◌∷◌, Option, Some, map, option_map}
use Rattle.std.specs.List.{AllByRecursion}
use Rattle.ring_net.specs.declared.entry.JournalEntry.{JournalEntry}
use Rattle.ring_net.specs.Deeds.{Deed, Makes}
use Rattle.graft_model.specs.Setups.{Setup}
use Rattle.graft_model.specs.RouterRows.{RouterTaken, OrderIn, SegmentIn, MeshIn, RouterSent, MeshTo, OutwardTo, ReportOut}
use Rattle.graft_model.specs.FarRows.{FarTaken, OutwardIn, SayIn, FarSent}
use Rattle.graft_model.specs.OperatorRows.{OperatorTaken, ReportIn, OperatorSent, OrderTo, SayTo}
use Rattle.graft_model.specs.Steps.{router_row, far_row, operator_row}
use Rattle.graft_model.specs.declared.code.Code.{Code}
use Rattle.graft_model.specs.Codes.{router_code, far_code, operator_code}
use Rattle.graft_actors.specs.Actors.{ActorPart, RouterIs, FarIs, OperatorIs, Thing, MeshItem, OutwardItem, SegmentItem, OrderItem}
use Rattle.graft_actors.specs.Actors.{ReportItem, StepItem, ActorName, Router, FarSide, Operator, number_in, IsActor, actor_at}

-- ---- whose item is taken, and to whom one is sent

abbrev pub taken_by_router : RouterTaken → ActorName × Thing
taken_by_router (OrderIn order) = (Operator, OrderItem order)
taken_by_router (SegmentIn p segment) = (FarSide p, SegmentItem segment)
taken_by_router (MeshIn q item) = (Router q, MeshItem item)

abbrev pub sent_by_router : RouterSent → ActorName × Thing
sent_by_router (MeshTo q item) = (Router q, MeshItem item)
sent_by_router (OutwardTo p item) = (FarSide p, OutwardItem item)
sent_by_router (ReportOut report) = (Operator, ReportItem report)

abbrev pub taken_by_far : FarTaken → ActorName × Thing
taken_by_far (OutwardIn r item) = (Router r, OutwardItem item)
taken_by_far (SayIn step) = (Operator, StepItem step)

abbrev pub sent_by_far : FarSent → ActorName × Thing
sent_by_far s = (Router s.router, SegmentItem s.segment)

abbrev pub taken_by_operator : OperatorTaken → ActorName × Thing
taken_by_operator (ReportIn r report) = (Router r, ReportItem report)

abbrev pub sent_by_operator : OperatorSent → ActorName × Thing
sent_by_operator (OrderTo r order) = (Router r, OrderItem order)
sent_by_operator (SayTo p step) = (FarSide p, StepItem step)

-- the item with the number of the other actor
abbrev pub numbered : Setup → ActorName × Thing → ℕ × Thing
numbered setup x = (number_in setup x.0, x.1)

-- ---- events

-- the entry has the kind and the arguments; its clock and its actor are the journal's
pub record HasCode (code : Code) (entry : JournalEntry) : Type 0 where
  pub kind : entry.kind ≡ code.kind
  pub a : entry.a ≡ code.a
  pub b : entry.b ≡ code.b
  pub c : entry.c ≡ code.c

-- the entries are those of these events, in their order
abbrev pub AreCoded : {E : Type 0} → (E → Code) → List E → List JournalEntry → Type 0
AreCoded code [] [] = Unit {0}
AreCoded code (event ∷ events) (entry ∷ entries) = HasCode (code event) entry × AreCoded code events entries
AreCoded code events entries = ⊥

-- the entries of what was done are those of these events
module _ {E I : Type 0} where
  abbrev pub AreDeeds : (E → Code) → List E → List (Deed I) → Type 0
  AreDeeds code events deeds = AreCoded code events (map (λ (deed : Deed I). deed.entry) deeds)

-- The entry is that of an event whose row in the model holds. What the row takes and sends are the items, with the numbers of their senders and
-- receivers. Each receiver must exist, which no row says; a sender exists, since otherwise it would have no channel.
pub record MakesRow {E P T S : Type 0} (setup : Setup) (code : E → Code)
    (row : E → P → Option T → List S → P → Type 0) (takes : T → ActorName × Thing) (gives : S → ActorName × Thing)
    (before : P) (entry : JournalEntry) (taken : Option (ℕ × Thing)) (sent : List (ℕ × Thing)) (after : P) : Type 0 where
  pub event : E
  pub coded : HasCode (code event) entry
  pub took : Option T
  pub gave : List S
  pub holds : row event before took gave after
  pub is_taken : taken ≡ option_map (λ t. numbered setup (takes t)) took
  pub is_sent : sent ≡ map (λ s. numbered setup (gives s)) gave
  pub there : AllByRecursion (λ s. IsActor setup (gives s).0) gave

-- A router makes the events of a router's rows, a far side those of a far side's, the operator the operator's; no actor makes those of another kind.
abbrev pub makes_as : Setup → Option ActorName → ActorPart → JournalEntry → Option (ℕ × Thing) → List (ℕ × Thing) → ActorPart → Type 0
makes_as setup (Some (Router r)) (RouterIs before) entry taken sent (RouterIs after) =
    MakesRow setup router_code (router_row setup r) taken_by_router sent_by_router before entry taken sent after
makes_as setup (Some (FarSide p)) (FarIs before) entry taken sent (FarIs after) =
    MakesRow setup far_code (far_row setup p) taken_by_far sent_by_far before entry taken sent after
makes_as setup (Some Operator) (OperatorIs before) entry taken sent (OperatorIs after) =
    MakesRow setup operator_code (operator_row setup) taken_by_operator sent_by_operator before entry taken sent after
makes_as setup actor before entry taken sent after = ⊥

-- What an actor of this number may make. Of a Go it states only the operator's own condition. That the world is quiet can't be stated for a part; it
-- is a condition of the laws of steps and runs.
abbrev pub makes : Setup → Makes ActorPart Thing
makes setup n before entry taken sent after = makes_as setup (actor_at setup n) before entry taken sent after

-- ---- a part that knows its setup

-- an actor's part with the setup of its laboratory: the part of a type of actors, which has one `makes` for all its values
pub record PartWithSetup : Type 0 where
  pub setup : Setup
  pub part : ActorPart

-- what the actor makes in its own setup, which stays the same
abbrev pub makes_in_its_setup : Makes PartWithSetup Thing
makes_in_its_setup n before entry taken sent after = (after.setup ≡ before.setup) × makes before.setup n before.part entry taken sent after.part
