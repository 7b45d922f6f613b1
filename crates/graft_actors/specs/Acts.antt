-- What an actor of the program does: events of its rows in the model, and items that it drops.
use Rattle.std.specs.Prelude.{ℕ, ◌≡◌, ◌⊎◌, List, [], Option, Some, None, map, option_map}
use Rattle.std.specs.List.{AllByRecursion}
use Rattle.ring_net.specs.declared.entry.JournalEntry.{JournalEntry}
use Rattle.ring_net.specs.Deeds.{Makes}
use Rattle.graft_steps.specs.declared.item.Item.{Item}
use Rattle.session_value.specs.Sessions.{SessionValue}
use Rattle.graft_model.specs.Setups.{Setup}
use Rattle.graft_model.specs.Taking.{RouterMayTake, FarMayTake, OperatorMayTake}
use Rattle.graft_model.specs.RouterRows.{RouterTaken}
use Rattle.graft_model.specs.FarRows.{FarTaken}
use Rattle.graft_model.specs.OperatorRows.{OperatorTaken}
use Rattle.graft_actors.specs.Actors.{ActorPart, RouterIs, FarIs, OperatorIs, Thing, ActorName, Router, FarSide, Operator, actor_at}
use Rattle.graft_actors.specs.Makes.{makes_as, taken_by_router, taken_by_far, taken_by_operator}
use Rattle.graft_actors.specs.Items.{thing_of, MayGo}

-- an actor's part, with its laboratory and its name there: the part that a type of actors has
pub record OwnPart : Type 0 where
  pub setup : Setup
  pub name : ActorName
  pub part : ActorPart

-- ---- what it may take

-- the actor of this number exists and may send the item to this one
abbrev pub MayComeFrom : {C : Type 0} (session : C → SessionValue) → Setup → Option ActorName → ActorName → Item C → Type 0
MayComeFrom session setup None to item = ⊥
MayComeFrom session setup (Some from) to item = MayGo session setup from to item

-- the actor can take this from that one in its current state
abbrev pub MayTake : Setup → ActorName → ActorPart → ActorName → Thing → Type 0
MayTake setup (Router r) (RouterIs part) from thing = (item : RouterTaken) × (taken_by_router item ≡ (from, thing)) × RouterMayTake setup part item
MayTake setup (FarSide p) (FarIs part) from thing = (item : FarTaken) × (taken_by_far item ≡ (from, thing)) × FarMayTake setup p part item
MayTake setup Operator (OperatorIs part) from thing = (item : OperatorTaken) × (taken_by_operator item ≡ (from, thing)) × OperatorMayTake part item
MayTake setup name part from thing = ⊥

abbrev pub MayTakeFrom : Setup → ActorName → ActorPart → Option ActorName → Thing → Type 0
MayTakeFrom setup name part None thing = ⊥
MayTakeFrom setup name part (Some from) thing = MayTake setup name part from thing

module _ {C : Type 0} (session : C → SessionValue) where
  -- an item that the actor takes, from the actor of this number
  pub record IsWelcome (own : OwnPart) (from : ℕ) (item : Item C) : Type 0 where
    pub comes : MayComeFrom session own.setup (actor_at own.setup from) own.name item
    pub takes : MayTakeFrom own.setup own.name own.part (actor_at own.setup from) (thing_of session own.setup item)

  -- what is taken is welcome, if anything is
  abbrev pub TakesWelcome : OwnPart → Option (ℕ × Item C) → Type 0
  TakesWelcome own None = Unit {0}
  TakesWelcome own (Some x) = IsWelcome own x.0 x.1

  -- what is sent may go where it is sent
  abbrev pub SendsFit : OwnPart → List (ℕ × Item C) → Type 0
  SendsFit own sent = AllByRecursion (λ x. (to : ActorName) × (actor_at own.setup x.0 ≡ Some to) × MayGo session own.setup own.name to x.1) sent

  abbrev pub things : Setup → List (ℕ × Item C) → List (ℕ × Thing)
  things setup sent = map (λ x. (x.0, thing_of session setup x.1)) sent

  -- An event by one of the actor's rows, which takes and sends what its items stand for.
  pub record MakesEvent (before : OwnPart) (entry : JournalEntry) (taken : Option (ℕ × Item C)) (sent : List (ℕ × Item C)) (after : OwnPart) : Type 0 where
    pub welcome : TakesWelcome before taken
    pub row : makes_as before.setup (Some before.name) before.part entry
        (option_map (λ x. (x.0, thing_of session before.setup x.1)) taken) (things before.setup sent) after.part
    pub fit : SendsFit before sent

  -- An item that isn't welcome is dropped, and nothing else happens. The entry has kind 0, and no arguments.
  pub record DropsItem (before : OwnPart) (entry : JournalEntry) (taken : Option (ℕ × Item C)) (sent : List (ℕ × Item C)) (after : OwnPart) : Type 0 where
    pub from : ℕ
    pub item : Item C
    pub takes : taken ≡ Some (from, item)
    pub unwelcome : ¬ IsWelcome before from item
    pub kind : entry.kind ≡ 0
    pub a : entry.a ≡ 0
    pub b : entry.b ≡ 0
    pub c : entry.c ≡ 0
    pub sends : sent ≡ []
    pub stays : after.part ≡ before.part

  -- What an actor may do. Its laboratory and its name stay the same.
  pub record ActsAs (before : OwnPart) (entry : JournalEntry) (taken : Option (ℕ × Item C)) (sent : List (ℕ × Item C)) (after : OwnPart) : Type 0 where
    pub setup : after.setup ≡ before.setup
    pub name : after.name ≡ before.name
    pub does : MakesEvent before entry taken sent after ⊎ DropsItem before entry taken sent after

  -- the same in the form that a net uses, whatever the number of the actor
  abbrev pub acts : Makes OwnPart (Item C)
  acts n before entry taken sent after = ActsAs before entry taken sent after
