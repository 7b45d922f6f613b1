-- The clocks of a run's journal.
use Rattle.std.specs.Prelude.{ℕ, ◌≡◌, ◌+◌, ◌-◌, ◌⊎◌, ◌||◌, max, if◌then◌else◌, Bool, List, [], ◌∷◌}
use Rattle.std.specs.Prelude.{◌++◌, length, map, filter, flat_map, fold, sum_by, replicate, Some, slice_get}
use Rattle.ring_net.specs.declared.entry.JournalEntry.{JournalEntry}
use Rattle.graft_model.specs.Setups.{Setup}
use Rattle.graft_model.specs.Parts.{World}
use Rattle.graft_model.specs.Steps.{Event, Run}
use Rattle.graft_actors.specs.Actors.{ActorName, same_name}
use Rattle.graft_actors.specs.Laws.{maker_of}
use Rattle.graft_actors.specs.Seen.{channel_of}
use Rattle.world_runs.specs.Marks.{is_go}

-- An event with its clock: who made it, how many items it took from each actor and sent to each, and whether it begins a group.
pub record ClockedEvent : Type 0 where
  pub maker : ActorName
  pub took : ActorName → ℕ
  pub sent : ActorName → ℕ
  pub begins : Bool
  pub clock : ℕ

-- the number of items on their way from one actor to another
abbrev pub on_way : World → ActorName → ActorName → ℕ
on_way w x y = length (channel_of w (Some x) (Some y))

-- an event that leads from one world to another, with the clock of its entry
abbrev pub clocked : Event → JournalEntry → World → World → ClockedEvent
clocked event entry w u = record {
  maker = maker_of event;
  took = λ x. on_way w x (maker_of event) - on_way u x (maker_of event);
  sent = λ y. on_way u (maker_of event) y - on_way w (maker_of event) y;
  begins = is_go entry;
  clock = entry.clock;
}

-- the events of a run in this form, with the clocks of their entries
abbrev pub clocked_in : (setup : Setup) (w : World) (events : List Event) (entries : List JournalEntry) (v : World) → Run setup w events v → List ClockedEvent
clocked_in setup w [] entries v run = []
clocked_in setup w (event ∷ events) [] v run = []
clocked_in setup w (event ∷ events) (entry ∷ entries) v run = clocked event entry w run.0 ∷ clocked_in setup run.0 events entries v run.2

-- ---- stamps

-- the clocks of the events by which one actor sent items to another, one for each item
abbrev pub stamps_sent : ActorName → ActorName → List ClockedEvent → List ℕ
stamps_sent x y events = flat_map (λ e. if same_name x e.maker then replicate (e.sent y) e.clock else []) events

-- the number of items that one actor took from another
abbrev pub number_taken : (from by : ActorName) → List ClockedEvent → ℕ
number_taken x y events = sum_by (λ e. if same_name y e.maker then e.took x else 0) events

-- The stamp of what an event takes is the clock of the event that sent it, where the items from one actor to another are taken in the order of
-- sending. It is 0 if nothing is taken.
abbrev pub IsStamp : (earlier : List ClockedEvent) → ClockedEvent → ℕ → Type 0
IsStamp earlier e stamp =
    (((x : ActorName) → e.took x ≡ 0) × (stamp ≡ 0))
    ⊎ ((x : ActorName) × (e.took x ≡ 1) × (slice_get (stamps_sent x e.maker earlier) (number_taken x e.maker earlier) ≡ Some stamp))

-- ---- clocks

abbrev pub greatest : List ℕ → ℕ
greatest clocks = fold max 0 clocks

-- the clock of an actor after some events: that of its last one, or of the last beginning of a group, if that is greater
abbrev pub clock_behind : ActorName → List ClockedEvent → ℕ
clock_behind x earlier = greatest (map (λ e. e.clock) (filter (λ e. same_name x e.maker || e.begins) earlier))

-- A clock is one above the greater of its actor's previous clock and the stamp of what is taken; that of a group's beginning is one above every
-- earlier clock.
pub record FollowsClocks (earlier : List ClockedEvent) (e : ClockedEvent) : Type 0 where
  pub stamp : ℕ
  pub is_stamp : IsStamp earlier e stamp
  pub is : e.clock ≡ (if e.begins then greatest (map (λ f. f.clock) earlier) else max (clock_behind e.maker earlier) stamp) + 1

abbrev pub AreClocked : List ClockedEvent → Type 0
AreClocked events = (earlier later : List ClockedEvent) (e : ClockedEvent) → events ≡ earlier ++ e ∷ later → FollowsClocks earlier e
