-- What a net's merged journal is in the world.
use Rattle.std.specs.Prelude.{ℕ, ◌≡◌, ◌<◌, ◌++◌, List}
use Rattle.ring_net.specs.declared.entry.JournalEntry.{JournalEntry}
use Rattle.ring_net.specs.Phases.{View}
use Rattle.journal_merge.specs.Worlds as worlds
use Rattle.journal_merge.specs.Growth.{IsWorldOf}
use Rattle.journal_merge.specs.Merges.{Interleaves}
use Rattle.graft_steps.specs.declared.item.Item.{Item}
use Rattle.session_value.specs.Sessions.{SessionValue}
use Rattle.graft_model.specs.Setups.{Setup, peerings_in}
use Rattle.graft_model.specs.Parts.{World}
use Rattle.graft_model.specs.First.{first_world}
use Rattle.graft_model.specs.Steps.{Event, Step, Run}
use Rattle.graft_model.specs.Claims.{Transparent}
use Rattle.graft_model.specs.Quiet.{Quiet}
use Rattle.graft_laws.specs.Keeps.{Reached}
use Rattle.graft_actors.specs.Laws.{IsEntryOf, AreEntriesOf}
use Rattle.graft_actors.specs.Acts.{OwnPart}
use Rattle.world_runs.specs.Labs.{IsLab}

-- Each peering is transparent in the world after each front of these events, from the first world on.
abbrev pub TransparentThroughout : Setup → List Event → Type 0
TransparentThroughout setup events = (front back : List Event) → events ≡ front ++ back
    → (w : World) × Run setup (first_world setup) front w × ((p : ℕ) → p < peerings_in setup → Transparent setup w p)

module _ {C : Type 0} (session : C → SessionValue) where
  -- The entry is that of a step of the world, which leads to the next laboratory.
  pub record IsStepOfLab (setup : Setup) (before : World) (entry : JournalEntry) (next : worlds.DeedWorld OwnPart (Item C)) : Type 0 where
    pub event : Event
    pub entry_of : IsEntryOf setup event entry
    pub after : World
    pub step : Step setup event before after
    pub lab : IsLab session setup next after

  -- The entries are those of a run of the world, which leads to the last laboratory.
  pub record IsRunOfLab (setup : Setup) (before : World) (entries : List JournalEntry) (last : worlds.DeedWorld OwnPart (Item C)) : Type 0 where
    pub events : List Event
    pub entries_of : AreEntriesOf setup events entries
    pub after : World
    pub run : Run setup before events after
    pub lab : IsLab session setup last after

module _ {A C : Type 0} (own : A → OwnPart) (session : C → SessionValue) where
  -- A view of a net is seen as a world.
  pub record IsSeenAs (setup : Setup) (v : View A (Item C)) (w : World) : Type 0 where
    pub lab : worlds.DeedWorld OwnPart (Item C)
    pub is : IsWorldOf own v lab
    pub sees : IsLab session setup lab w

  -- The journal is that of a run from the first world, to the one as which the net is seen.
  pub record RanAs (setup : Setup) (journal : List JournalEntry) (v : View A (Item C)) : Type 0 where
    pub events : List Event
    pub entries_of : AreEntriesOf setup events journal
    pub world : World
    pub run : Run setup (first_world setup) events world
    pub seen : IsSeenAs setup v world

  -- the same of the merged journal of a net, of which there is only one
  abbrev pub Ran : Setup → View A (Item C) → Type 0
  Ran setup v = (merged : List JournalEntry) → Interleaves v.journal merged → RanAs setup merged v

  -- every world of a run as which the net is seen is quiet
  abbrev pub QuietAt : Setup → View A (Item C) → Type 0
  QuietAt setup v = (w : World) → IsSeenAs setup v w → Reached setup w → Quiet setup w
