-- All rounds of a run.
use Rattle.std.specs.Prelude.{ℕ, ◌≡◌, ◌<◌, ◌≤◌, ◌+◌, List, length, min, Some, slice_get}
use Rattle.std.specs.List.{flat_map, range_with_len}
use Rattle.ring_net.specs.declared.entry.JournalEntry.{JournalEntry}
use Rattle.journal_merge.specs.Merges.{Interleaves}
use Rattle.link_bag.specs.declared.plan.Fault.{Fault}
use Rattle.graft_model.specs.Codes.{router_code, far_code, operator_code}
use Rattle.graft_model.specs.Parts.{World}
use Rattle.graft_model.specs.Setups.{Setup, routers_in, peerings_in}
use Rattle.graft_model.specs.First.{first_world}
use Rattle.graft_model.specs.Steps.{Event, Run}
use Rattle.graft_model.specs.declared.event.RouterEvent.{RouterEvent}
use Rattle.graft_model.specs.declared.event.FarEvent.{FarEvent}
use Rattle.graft_model.specs.declared.event.OperatorEvent.{OperatorEvent}
use Rattle.graft_actors.specs.Actors.{ActorName, Router, FarSide, Operator, number_in, IsActor}
use Rattle.graft_actors.specs.Laws.{AreEntriesOf}
use Rattle.graft_actors.specs.Seen.{channel_of, IsWithin}
use Rattle.world_runs.specs.Marks.{IsWorldAtMark}
use Rattle.real_rounds.specs.Entries.{between, count_taken_from}
use Rattle.real_rounds.specs.Routers.{RealRouter, RealOperator}
use Rattle.real_rounds.specs.Fars.{Links, empty_links, RealFar}
use Rattle.graft_actors.specs.Makes.{AreCoded}

-- ---- one round

-- the entries of an actor in a round
abbrev pub Slices : Type 0
Slices = ℕ → List JournalEntry

pub record RouterDid (setup : Setup) (r round : ℕ) (start : World) (slices : Slices) (end : World) : Type 0 where
  pub events : List RouterEvent
  pub coded : AreCoded router_code events (slices (number_in setup (Router r)))
  pub real : RealRouter setup r round (start.router r) events (end.router r)

pub record FarDid (setup : Setup) (faults : List Fault) (p round : ℕ) (start : World)
    (before : Links) (slices : Slices) (end : World) (after : Links) : Type 0 where
  pub events : List FarEvent
  pub coded : AreCoded far_code events (slices (number_in setup (FarSide p)))
  pub real : RealFar setup faults p round (start.far p) before events (end.far p) after

pub record OperatorDid (setup : Setup) (start : World) (slices : Slices) (end : World) : Type 0 where
  pub events : List OperatorEvent
  pub coded : AreCoded operator_code events (slices (number_in setup Operator))
  pub real : RealOperator setup start.operator events end.operator

-- One round of this number, from the world at a mark to the world at the next one.
pub record RealRound (setup : Setup) (faults : List Fault) (round : ℕ) (start : World)
    (before : ℕ → Links) (slices : Slices) (end : World) (after : ℕ → Links) : Type 0 where
  pub routers : (r : ℕ) → r < routers_in setup → RouterDid setup r round start slices end
  pub far_sides : (p : ℕ) → p < peerings_in setup → FarDid setup faults p round start (before p) slices end (after p)
  pub operator : OperatorDid setup start slices end

-- The run of a round, from the world at a mark to that at the next one: its events are those of the entries that all actors wrote between the two, by
-- clock and actor.
pub record RoundGoes (setup : Setup) (start : World) (slices : Slices) (events : List Event) (end : World) : Type 0 where
  pub entries : List JournalEntry
  pub merged : Interleaves slices entries
  pub entries_of : AreEntriesOf setup events entries
  pub run : Run setup start events end

-- In two rounds, at least as many items are taken from each channel as it holds at the start, or 256 if it holds more.
abbrev pub Drains : Setup → World → Slices → Slices → Type 0
Drains setup start one other = (x y : ActorName) → IsActor setup x → IsActor setup y
    → min 256 (length (channel_of start (Some x) (Some y))) ≤ count_taken_from x (one (number_in setup y)) + count_taken_from x (other (number_in setup y))

-- ---- all rounds

-- the events of n rounds, one round after another
abbrev pub round_by_round : (ℕ → List Event) → ℕ → List Event
round_by_round events n = flat_map events (range_with_len 0 n)

-- The rounds of a run between its marks, the first of which comes before all entries, by a plan of faults: the world at each mark, and the events of
-- the round after it.
pub record RealRounds (setup : Setup) (faults : List Fault) (journal : List JournalEntry) (marks : List (List ℕ)) : Type 0 where
  pub world : ℕ → World
  pub events : ℕ → List Event
  pub links : (k p : ℕ) → Links
  pub worlds : (k : ℕ) (mark : List ℕ) → slice_get marks k ≡ Some mark → IsWorldAtMark setup journal mark (world k)
  pub within : (k : ℕ) (mark : List ℕ) → slice_get marks k ≡ Some mark → IsWithin setup (world k)
  pub begins : (mark : List ℕ) → slice_get marks 0 ≡ Some mark → world 0 ≡ first_world setup
  pub empty : (p : ℕ) → links 0 p ≡ empty_links
  pub each : (k : ℕ) (mark next : List ℕ) → slice_get marks k ≡ Some mark → slice_get marks (k + 1) ≡ Some next
      → RealRound setup faults (k + 1) (world k) (links k) (between journal mark next) (world (k + 1)) (links (k + 1))
  pub goes : (k : ℕ) (mark next : List ℕ) → slice_get marks k ≡ Some mark → slice_get marks (k + 1) ≡ Some next
      → RoundGoes setup (world k) (between journal mark next) (events k) (world (k + 1))
  pub drains : (k : ℕ) (mark next last : List ℕ) → slice_get marks k ≡ Some mark → slice_get marks (k + 1) ≡ Some next → slice_get marks (k + 2) ≡ Some last
      → Drains setup (world k) (between journal mark next) (between journal next last)
