-- What an event and a run of a net are in the world.
use Rattle.std.specs.Prelude.{ℕ, ◌≡◌, ◌+◌, ◌<◌, List, [], ◌∷◌, Option, Some, map, option_map}
use Rattle.std.specs.List.{AllByRecursion}
use Rattle.ring_net.specs.declared.entry.JournalEntry.{JournalEntry}
use Rattle.ring_net.specs.Deeds.{Deed, Noted}
use Rattle.ring_net.specs.Phases.{View}
use Rattle.journal_merge.specs.Worlds as worlds
use Rattle.journal_merge.specs.Growth.{RunsTo}
use Rattle.graft_model.specs.Setups.{Setup, routers_in, peerings_in}
use Rattle.graft_model.specs.Parts.{RouterPart, FarPart, OperatorPart, World}
use Rattle.graft_model.specs.RouterRows.{RouterTaken, RouterSent}
use Rattle.graft_model.specs.FarRows.{FarTaken, FarSent}
use Rattle.graft_model.specs.OperatorRows.{OperatorTaken, OperatorSent}
use Rattle.graft_model.specs.Quiet.{Quiet}
use Rattle.graft_model.specs.declared.code.Code.{Code}
use Rattle.graft_model.specs.Codes.{router_code, far_code, operator_code}
use Rattle.graft_model.specs.declared.event.OperatorEvent.TheVariants.{Go}
use Rattle.graft_model.specs.declared.event.RouterEvent.{RouterEvent}
use Rattle.graft_model.specs.declared.event.FarEvent.{FarEvent}
use Rattle.graft_model.specs.declared.event.OperatorEvent.{OperatorEvent}
use Rattle.graft_model.specs.Steps.{Event, ByRouter, ByFar, ByOperator, router_row, far_row, operator_row, Step, Run}
use Rattle.graft_actors.specs.Actors.{ActorPart, RouterIs, FarIs, OperatorIs, Thing, ActorName, Router, FarSide, Operator, number_in, IsActor, actor_at}
use Rattle.graft_actors.specs.Makes.{HasCode, makes, PartWithSetup, makes_in_its_setup, numbered, taken_by_router}
use Rattle.graft_actors.specs.Makes.{sent_by_router, taken_by_far, sent_by_far, taken_by_operator, sent_by_operator}
use Rattle.graft_actors.specs.Seen.{Net, Sees, SeesView}

abbrev pub maker_of : Event → ActorName
maker_of (ByRouter r event) = Router r
maker_of (ByFar p event) = FarSide p
maker_of (ByOperator event) = Operator

abbrev pub code_of : Event → Code
code_of (ByRouter r event) = router_code event
code_of (ByFar p event) = far_code event
code_of (ByOperator event) = operator_code event

-- an entry is that of an event: its maker's number, and its code
pub record IsEntryOf (setup : Setup) (event : Event) (entry : JournalEntry) : Type 0 where
  pub there : IsActor setup (maker_of event)
  pub maker : entry.actor ≡ number_in setup (maker_of event)
  pub coded : HasCode (code_of event) entry

-- the same of events and entries in their order
abbrev pub AreEntriesOf : Setup → List Event → List JournalEntry → Type 0
AreEntriesOf setup [] [] = Unit {0}
AreEntriesOf setup (event ∷ events) (entry ∷ entries) = IsEntryOf setup event entry × AreEntriesOf setup events entries
AreEntriesOf setup events entries = ⊥

abbrev pub IsGo : JournalEntry → Type 0
IsGo entry = entry.kind ≡ (operator_code Go).kind

-- ---- one event

-- the event of this entry is a step of the world, after which the net is seen
pub record IsStepOf (setup : Setup) (before : World) (entry : JournalEntry) (next : Net) : Type 0 where
  pub event : Event
  pub entry_of : IsEntryOf setup event entry
  pub after : World
  pub step : Step setup event before after
  pub sees : Sees setup next after

-- one event of a net, made by its actor's row, is a step; a Go must be made in a quiet world
abbrev pub AnEventIsAStep : Type 0
AnEventIsAStep = (setup : Setup) (net next : Net) (deed : Deed Thing) (w : World) → Sees setup net w → worlds.DeedStep (makes setup) net deed next
    → (IsGo deed.entry → Quiet setup w)
    → IsStepOf setup w deed.entry next

-- ---- runs

-- the events of these entries are a run of the world, after which the net is seen
pub record IsRunOf (setup : Setup) (before : World) (entries : List JournalEntry) (last : Net) : Type 0 where
  pub events : List Event
  pub entries_of : AreEntriesOf setup events entries
  pub after : World
  pub run : Run setup before events after
  pub sees : Sees setup last after

-- at each Go of a run, the world that the net is seen as is quiet
abbrev pub QuietAtGo : (setup : Setup) (net last : Net) (deeds : List (Deed Thing)) → worlds.DeedRun (makes setup) net deeds last → Type 0
QuietAtGo setup net last [] run = Unit {0}
QuietAtGo setup net last (deed ∷ deeds) run = (IsGo deed.entry → (w : World) → Sees setup net w → Quiet setup w) × QuietAtGo setup run.0 last deeds run.2

abbrev pub ANetRunIsARun : Type 0
ANetRunIsARun = (setup : Setup) (net last : Net) (deeds : List (Deed Thing)) (w : World) → Sees setup net w
    → (run : worlds.DeedRun (makes setup) net deeds last) → QuietAtGo setup net last deeds run
    → IsRunOf setup w (map (λ d. d.entry) deeds) last

module _ {A : Type 0} (part : A → ActorPart) where
  -- the events of these entries are a run of the world, to the one as which a view is seen
  pub record RunsOn (setup : Setup) (before : World) (entries : List JournalEntry) (last : View A Thing) : Type 0 where
    pub events : List Event
    pub entries_of : AreEntriesOf setup events entries
    pub after : World
    pub run : Run setup before events after
    pub sees : SeesView part setup last after

  -- a merged journal, with a quiet world at each Go
  abbrev pub AJournalIsARun : Type 0
  AJournalIsARun = (setup : Setup) (u v : View A Thing) (levels : List ℕ) (notes : ℕ → List (Noted Thing))
      (entries : List JournalEntry) (w : World) (seen : SeesView part setup u w)
      (runs : RunsTo part (makes setup) u seen.net levels notes entries v)
      → QuietAtGo setup seen.net runs.last (map (λ n. n.deed) runs.events) runs.run → RunsOn setup w entries v

  -- a merged journal without a Go
  abbrev pub AGroupIsARun : Type 0
  AGroupIsARun = (setup : Setup) (u v : View A Thing) (levels : List ℕ) (notes : ℕ → List (Noted Thing))
      (entries : List JournalEntry) (w : World) (seen : SeesView part setup u w)
      → RunsTo part (makes setup) u seen.net levels notes entries v → AllByRecursion (λ e. IsGo e → ⊥) entries → RunsOn setup w entries v

-- ---- actors that know their setup

abbrev pub without_setups : worlds.DeedWorld PartWithSetup Thing → Net
without_setups net = record { part = λ n. (net.part n).part; channel = net.channel }

abbrev pub HaveSetup : Setup → worlds.DeedWorld PartWithSetup Thing → Type 0
HaveSetup setup net = (n : ℕ) → (net.part n).setup ≡ setup

-- a run of actors that all have this setup is one of their parts, and they have it at its end
abbrev pub SetupsAreKept : Type 0
SetupsAreKept = (setup : Setup) (net last : worlds.DeedWorld PartWithSetup Thing) (deeds : List (Deed Thing)) → HaveSetup setup net
    → worlds.DeedRun makes_in_its_setup net deeds last
    → worlds.DeedRun (makes setup) (without_setups net) deeds (without_setups last) × HaveSetup setup last

-- the same for a merged journal
abbrev pub JournalsOfParts : {A : Type 0} (part : A → PartWithSetup) → Type 0
JournalsOfParts {A} part = (setup : Setup) (u v : View A Thing) (levels : List ℕ)
    (notes : ℕ → List (Noted Thing)) (entries : List JournalEntry) (net : worlds.DeedWorld PartWithSetup Thing)
    → HaveSetup setup net
    → RunsTo part makes_in_its_setup u net levels notes entries v → RunsTo (λ a. (part a).part) (makes setup) u (without_setups net) levels notes entries v

-- ---- consequences of the definitions

-- each row of the model is an event that its actor makes
abbrev pub RouterRowsAreMade : Type 0
RouterRowsAreMade = (setup : Setup) (r : ℕ) (event : RouterEvent) (before after : RouterPart)
    (entry : JournalEntry) (took : Option RouterTaken) (gave : List RouterSent)
    → r < routers_in setup
    → router_row setup r event before took gave after → HasCode (router_code event) entry → AllByRecursion (λ s. IsActor setup (sent_by_router s).0) gave
    → makes setup r (RouterIs before) entry (option_map (λ t. numbered setup (taken_by_router t)) took)
    (map (λ s. numbered setup (sent_by_router s)) gave) (RouterIs after)

abbrev pub FarRowsAreMade : Type 0
FarRowsAreMade = (setup : Setup) (p : ℕ) (event : FarEvent) (before after : FarPart) (entry : JournalEntry) (took : Option FarTaken) (gave : List FarSent)
    → p < peerings_in setup
    → far_row setup p event before took gave after → HasCode (far_code event) entry → AllByRecursion (λ s. IsActor setup (sent_by_far s).0) gave
    → makes setup (routers_in setup + p) (FarIs before) entry (option_map (λ t. numbered setup (taken_by_far t)) took)
    (map (λ s. numbered setup (sent_by_far s)) gave) (FarIs after)

abbrev pub OperatorRowsAreMade : Type 0
OperatorRowsAreMade = (setup : Setup) (event : OperatorEvent) (before after : OperatorPart)
    (entry : JournalEntry) (took : Option OperatorTaken) (gave : List OperatorSent)
    → operator_row setup event before took gave after → HasCode (operator_code event) entry → AllByRecursion (λ s. IsActor setup (sent_by_operator s).0) gave
    → makes setup (routers_in setup + peerings_in setup) (OperatorIs before) entry
    (option_map (λ t. numbered setup (taken_by_operator t)) took) (map (λ s. numbered setup (sent_by_operator s)) gave) (OperatorIs after)

-- a net is seen as one world only
abbrev pub OneWorldIsSeen : Type 0
OneWorldIsSeen = (setup : Setup) (net : Net) (w v : World) → Sees setup net w → Sees setup net v → v ≡ w

-- an entry belongs to one event only
abbrev pub OneEventHasTheEntry : Type 0
OneEventHasTheEntry = (setup : Setup) (one other : Event) (entry : JournalEntry) → IsEntryOf setup one entry → IsEntryOf setup other entry → one ≡ other

-- entries belong to one list of events only
abbrev pub OneListHasTheEntries : Type 0
OneListHasTheEntries = (setup : Setup) (events others : List Event) (entries : List JournalEntry) → AreEntriesOf setup events entries
    → AreEntriesOf setup others entries → events ≡ others

abbrev pub ActorsHaveNumbers : Type 0
ActorsHaveNumbers = (setup : Setup) (x : ActorName) → IsActor setup x → actor_at setup (number_in setup x) ≡ Some x

abbrev pub NumbersAreOfActors : Type 0
NumbersAreOfActors = (setup : Setup) (n : ℕ) (x : ActorName) → actor_at setup n ≡ Some x → IsActor setup x × (n ≡ number_in setup x)
