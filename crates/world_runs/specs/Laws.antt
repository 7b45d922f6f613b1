-- The laws of a net's runs.
use Rattle.std.specs.Prelude.{ℕ, ◌≡◌, ◌≢◌, ◌≤◌, ◌<◌, List, [], map, length, Some}
use Rattle.std.specs.List.{AllByRecursion}
use Rattle.ring_net.specs.declared.entry.JournalEntry.{JournalEntry}
use Rattle.ring_net.specs.Deeds.{Deed, Noted, deeds}
use Rattle.ring_net.specs.Phases.{View, IsNewNet, InOrder, AllAt}
use Rattle.journal_merge.specs.Worlds as worlds
use Rattle.journal_merge.specs.Growth.{Grew}
use Rattle.journal_merge.specs.Laws.{at_mark}
use Rattle.graft_steps.specs.declared.item.Item.{Item}
use Rattle.session_value.specs.Sessions.{SessionValue}
use Rattle.graft_model.specs.Setups.{Setup, IsSetup}
use Rattle.graft_model.specs.Parts.{World}
use Rattle.graft_model.specs.First.{first_world}
use Rattle.graft_model.specs.Steps.{Event, Run}
use Rattle.graft_model.specs.Quiet.{Quiet}
use Rattle.graft_laws.specs.Keeps.{Reached}
use Rattle.graft_actors.specs.Actors.{ActorName, actor_at}
use Rattle.graft_actors.specs.Laws.{IsGo, AreEntriesOf}
use Rattle.graft_actors.specs.Seen.{IsWithin}
use Rattle.graft_actors.specs.Acts.{OwnPart, acts}
use Rattle.settled_check.specs.Worlds.{IsOnTheWay}
use Rattle.world_runs.specs.Labs.{actors_in, IsLab, AreFirstActors}
use Rattle.world_runs.specs.Runs.{TransparentThroughout, IsStepOfLab, IsRunOfLab, Ran, QuietAt}

-- a deed is no Go
abbrev pub IsNoGo : {I : Type 0} → Deed I → Type 0
IsNoGo deed = IsGo deed.entry → ⊥

-- ---- one world

module _ {C : Type 0} (session : C → SessionValue) where
  -- What an actor of the laboratory does is a step of the world: it drops no item that arrives. A Go needs a quiet world.
  abbrev pub AnActIsAStep : Type 0
  AnActIsAStep = (setup : Setup) (lab next : worlds.DeedWorld OwnPart (Item C)) (deed : Deed (Item C)) (w : World) (x : ActorName) → IsSetup setup
      → Reached setup w → IsLab session setup lab w
      → actor_at setup deed.entry.actor ≡ Some x → worlds.DeedStep (acts session) lab deed next → (IsGo deed.entry → Quiet setup w)
      → IsStepOfLab session setup w deed.entry next

  -- The same for a run without a Go.
  abbrev pub ActsAreARun : Type 0
  ActsAreARun = (setup : Setup) (lab last : worlds.DeedWorld OwnPart (Item C)) (deeds : List (Deed (Item C))) (w : World) → IsSetup setup
      → Reached setup w → IsLab session setup lab w
      → AllByRecursion (λ d. d.entry.actor < actors_in setup) deeds → AllByRecursion IsNoGo deeds → worlds.DeedRun (acts session) lab deeds last
      → IsRunOfLab session setup w (map (λ d. d.entry) deeds) last

-- No entry of events has kind 0, that of an item that is dropped.
abbrev pub NothingWasDropped : Type 0
NothingWasDropped = (setup : Setup) (events : List Event) (entries : List JournalEntry) → AreEntriesOf setup events entries
    → AllByRecursion (λ e. e.kind ≢ 0) entries

-- ---- a net

module _ {A C : Type 0} (own : A → OwnPart) (session : C → SessionValue) where
  -- a new net of a laboratory's actors has a run without events
  abbrev pub NewNetsRan : Type 0
  NewNetsRan = (setup : Setup) (actors : List A) (edges : List (ℕ × ℕ)) (v : View A (Item C)) → AreFirstActors own setup actors
      → IsNewNet actors edges v → Ran own session setup v

  -- what a net did since all clocks were level, without a Go, extends its run
  abbrev pub RunsGoOn : Type 0
  RunsGoOn = (setup : Setup) (u v : View A (Item C)) (levels : List ℕ) (notes : ℕ → List (Noted (Item C))) (clock : ℕ) → IsSetup setup
      → length u.actors ≡ actors_in setup → InOrder u → AllAt u clock
      → Grew own (acts session) u v levels notes → ((k : ℕ) → AllByRecursion IsNoGo (deeds (notes k))) → Ran own session setup u → Ran own session setup v

  -- what an actor did at a mark, which is at most one event, extends it too if the world is quiet, even a Go
  abbrev pub ExtendsAtMark : Type 0
  ExtendsAtMark = (setup : Setup) (k : ℕ) (u v : View A (Item C)) (levels : List ℕ) (did : List (Deed (Item C))) (clock : ℕ) → IsSetup setup
      → length u.actors ≡ actors_in setup → InOrder u → AllAt u clock
      → Grew own (acts session) u v levels (at_mark own (acts session) k did) → length did ≤ 1 → QuietAt own session setup u
      → Ran own session setup u → Ran own session setup v

-- ---- what holds throughout a run

-- every run is transparent at every moment
abbrev pub RunsAreTransparent : Type 0
RunsAreTransparent = (setup : Setup) (events : List Event) (w : World) → IsSetup setup → Run setup (first_world setup) events w
    → TransparentThroughout setup events

-- what a settled check requires of a world holds in each world of a run
abbrev pub WorldsAreOnTheWay : Type 0
WorldsAreOnTheWay = (setup : Setup) (w : World) → IsSetup setup → Reached setup w → IsWithin setup w → IsOnTheWay setup w

-- no router sends items to itself
abbrev pub NobodyWritesToItself : Type 0
NobodyWritesToItself = (setup : Setup) (w : World) (r : ℕ) → IsSetup setup → Reached setup w → w.mesh r r ≡ []
