-- The laws of clocks beside a run.
use Rattle.std.specs.Prelude.{ℕ, ◌≡◌, ◌<◌, ◌↔◌, true, false, List, [], ◌∷◌, ◌++◌, map, option_map, Option, Some, None}
use Rattle.std.specs.Option.{option_to_list}
use Rattle.ring_net.specs.declared.entry.JournalEntry.{JournalEntry}
use Rattle.ring_net.specs.Deeds.{Deed}
use Rattle.journal_merge.specs.Worlds as worlds
use Rattle.graft_steps.specs.declared.item.Item.{Item}
use Rattle.session_value.specs.Sessions.{SessionValue}
use Rattle.graft_model.specs.Setups.{Setup, IsSetup}
use Rattle.graft_model.specs.Parts.{World}
use Rattle.graft_model.specs.First.{first_world}
use Rattle.graft_model.specs.Steps.{Event, Step, Run}
use Rattle.graft_laws.specs.Keeps.{Reached}
use Rattle.graft_actors.specs.Actors.{ActorName, number_in, actor_at}
use Rattle.graft_actors.specs.Laws.{AreEntriesOf, maker_of}
use Rattle.graft_actors.specs.Acts.{OwnPart, acts}
use Rattle.world_runs.specs.Labs.{IsLab, actors_in}
use Rattle.world_runs.specs.Marks.{is_go}
use Rattle.audit_clocks.specs.declared.clocks.Clocks.{Clocks}
use Rattle.audit_clocks.specs.Clocks.{IsNew, HasPassed, IsLevel}
use Rattle.run_clocks.specs.Clocks.{ClockedEvent, FollowsClocks, clocked, clocked_in}
use Rattle.clocked_audits.specs.Timed.{IsTimed, MovesItems, due_clock}

-- new clocks are those of a run without events
abbrev pub ClocksBegin : Type 0
ClocksBegin = (setup : Setup) (clocks : Clocks) → IsNew (actors_in setup) clocks → IsTimed setup (first_world setup) [] clocks

-- clocks and stamps tell whether an entry's clock follows from those before it
abbrev pub ClocksDecide : Type 0
ClocksDecide = (setup : Setup) (w u : World) (event : Event) (entry : JournalEntry) (earlier : List ClockedEvent) (clocks : Clocks) (from to : Option ℕ)
    → IsTimed setup w earlier clocks → MovesItems setup w u (maker_of event) from to
    → FollowsClocks earlier (clocked event entry w u) ↔ (entry.clock ≡ due_clock setup clocks entry (maker_of event) from)

-- clocks that an event passed are those of the run with that event
abbrev pub ClocksPass : Type 0
ClocksPass = (setup : Setup) (w u : World) (event : Event) (entry : JournalEntry) (earlier : List ClockedEvent) (clocks after : Clocks) (from to : Option ℕ)
    → IsTimed setup w earlier clocks → MovesItems setup w u (maker_of event) from to → is_go entry ≡ false → FollowsClocks earlier (clocked event entry w u)
    → HasPassed clocks (number_in setup (maker_of event)) from to entry.clock after → IsTimed setup u (earlier ++ clocked event entry w u ∷ []) after

-- so are clocks that were leveled, where a group begins
abbrev pub ClocksLevel : Type 0
ClocksLevel = (setup : Setup) (w u : World) (event : Event) (entry : JournalEntry) (earlier : List ClockedEvent) (clocks after : Clocks)
    → IsTimed setup w earlier clocks → MovesItems setup w u (maker_of event) None None → is_go entry ≡ true → FollowsClocks earlier (clocked event entry w u)
    → IsLevel clocks entry.clock after → IsTimed setup u (earlier ++ clocked event entry w u ∷ []) after

-- What a deed takes from a sender, and sends to a receiver, one item at most, moves between the worlds as which the laboratory is seen before it and
-- after.
abbrev pub DeedsMoveItems : {C : Type 0} (session : C → SessionValue) → Type 0
DeedsMoveItems {C} session = (setup : Setup) (lab next : worlds.DeedWorld OwnPart (Item C)) (deed : Deed (Item C)) (w u : World) (maker : ActorName)
    (to : Option ℕ) → IsLab session setup lab w → IsLab session setup next u → worlds.DeedStep (acts session) lab deed next
    → actor_at setup deed.entry.actor ≡ Some maker → ((r : ℕ) → w.mesh r r ≡ []) → ((r : ℕ) → u.mesh r r ≡ [])
    → map (λ s. s.0) deed.sent ≡ option_to_list to → ((n : ℕ) → to ≡ Some n → n < actors_in setup)
    → MovesItems setup w u maker (option_map (λ t. t.0) deed.taken) to

-- ---- runs

-- a run is one event longer
abbrev pub RunsGrow : Type 0
RunsGrow = (setup : Setup) (events : List Event) (entries : List JournalEntry) (event : Event) (entry : JournalEntry) (w u v : World)
    → AreEntriesOf setup events entries → (run : Run setup w events u) → Step setup event u v
    → (longer : Run setup w (events ++ event ∷ []) v) × (clocked_in setup w (events ++ event ∷ []) (entries ++ entry ∷ []) v longer
    ≡ clocked_in setup w events entries u run ++ clocked event entry u v ∷ [])

-- a run goes on, from a world to which a run leads
abbrev pub RunsGoOn : Type 0
RunsGoOn = (setup : Setup) (events : List Event) (entries : List JournalEntry) (event : Event) (entry : JournalEntry) (later : List Event)
    (rest : List JournalEntry) (w u v last : World) → IsSetup setup → Reached setup w → AreEntriesOf setup events entries → (run : Run setup w events u)
    → Step setup event u v → (whole : Run setup w (events ++ event ∷ later) last)
    → (more : List ClockedEvent) × (clocked_in setup w (events ++ event ∷ later) (entries ++ entry ∷ rest) last whole
    ≡ clocked_in setup w events entries u run ++ clocked event entry u v ∷ more)

-- two runs with the same entries have the same clocked events
abbrev pub RunsAreClockedAlike : Type 0
RunsAreClockedAlike = (setup : Setup) (events others : List Event) (entries : List JournalEntry) (w u v : World) → IsSetup setup → Reached setup w
    → AreEntriesOf setup events entries → AreEntriesOf setup others entries → (run : Run setup w events u) → (other : Run setup w others v)
    → clocked_in setup w events entries u run ≡ clocked_in setup w others entries v other
