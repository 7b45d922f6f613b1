-- The operator's progress, as the program keeps it.
use Rattle.std.specs.Prelude.{ℕ, ◌≡◌, ◌≤◌, ◌<◌, ◌+◌, ◌-◌, ◌↔◌, Bool, true, false, List, [], ◌∷◌, length, take, Some, None, slice_get}
use Rattle.std.specs.List.{AllByRecursion}
use Rattle.session_value.specs.Sessions.{SessionValue}
use Rattle.ring_net.specs.declared.post.Post.{Post}
use Rattle.ring_net.specs.Deeds.{Deed, Replay, TakesNone}
use Rattle.ring_net.specs.Posts.{actor_of, Wrote}
use Rattle.graft_steps.specs.declared.log.GraftEntry.{GraftEntry}
use Rattle.graft_steps.specs.declared.refusal.Outcome.{Outcome}
use Rattle.graft_steps.specs.declared.item.Item.{Item}
use Rattle.graft_steps.specs.declared.item.Item.TheVariants.{GraftOrder}
use Rattle.graft_model.specs.declared.event.OperatorEvent.TheVariants.{Order}
use Rattle.graft_model.specs.Codes.{operator_code}
use Rattle.graft_model.specs.First.{first_world}
use Rattle.graft_actors.specs.Actors.{OperatorIs, Operator as TheOperator}
use Rattle.graft_actors.specs.declared.known.Known.{Known}
use Rattle.graft_actors.specs.Acts.{OwnPart, acts}
use Rattle.graft_actors.specs.Notes.{deed_of}
use Rattle.operator_state.specs.declared.grafts.Move.{Move}
use Rattle.operator_state.specs.declared.grafts.Seat.{Seat}
use Rattle.operator_state.specs.declared.grafts.Slot.TheVariants.{Made}
use Rattle.operator_state.specs.declared.groups.Task.{Task}
use Rattle.operator_core.specs.declared.progress.Progress.{Progress}
use Rattle.actor_configs.specs.declared.script.ScriptStep.TheVariants.{Settle}
use Rattle.actor_configs.specs.Scripts.{IsScriptOf}
use Rattle.operator_state.specs.Tasks.{unissued}
use Rattle.operator_state.specs.Groups.{AreNumbers}
use Rattle.operator_state.specs.States.{State, part_of_state}
use Rattle.operator_state.specs.Keeps.{OperatorInvariant}
use Rattle.operator_state.specs.Issues.{IsGraftHeldUp, graft_issued}
use Rattle.operator_state.specs.Notes.{graft_noted}
use Rattle.operator_state.specs.Tasks.{IsNumberOf}
use Rattle.operator_core.specs.Turns.{BeginNoGroup}
use Rattle.operator_state.specs.Holds.{NothingToOrder, IsHeldUp, GivesEmptiedSessions}

abbrev pub progress_state : Progress → State
progress_state p =
    record { setup = p.known.setup; group = p.group; next = p.next; waiting = unissued p.tasks.items; slots = p.slots.items; seats = p.seats.items }

abbrev pub own_part_of : State → OwnPart
own_part_of s = record { setup = s.setup; name = TheOperator; part = OperatorIs (part_of_state s) }

-- The script is that of the laboratory, with the numbers of its grafts, and its last step ends a group.
pub record IsKnown (p : Progress) : Type 0 where
  pub script : IsScriptOf p.known.setup p.script
  pub numbers : AreNumbers (length p.script.starts) p.script.steps p.numbers
  pub few : length p.script.rooms ≤ 256
  pub peerings : length p.script.starts ≤ 256
  pub short : length p.script.steps ≤ 4097
  pub ended : slice_get p.script.steps (length p.script.steps - 1) ≡ Some Settle

pub record ProgressInvariant (p : Progress) : Type 0 where
  pub known : IsKnown p
  pub keeps : OperatorInvariant (progress_state p)

-- nothing was issued yet
pub record IsNewProgress (known : Known) (p : Progress) : Type 0 where
  pub is_known : p.known ≡ known
  pub sound : ProgressInvariant p
  pub part : part_of_state (progress_state p) ≡ (first_world known.setup).operator

-- the peerings of existing grafts have seats
abbrev pub HaveSeats : Progress → Type 0
HaveSeats p = (index : ℕ) (entry : GraftEntry) → slice_get p.slots.items index ≡ Some (Made entry) → entry.peering.0 < length p.seats.items

-- the slot at this index has a graft
abbrev pub IsMadeAt : Progress → ℕ → Type 0
IsMadeAt p index = (entry : GraftEntry) × (slice_get p.slots.items index ≡ Some (Made entry))

abbrev pub IsOrderOf : Progress → Task → ℕ → Type 0
IsOrderOf p task number = IsNumberOf (slice_get p.script.steps task.step) task number

-- what comes from the script stays the same
pub record SameScript (old new : Progress) : Type 0 where
  pub known : new.known ≡ old.known
  pub script : new.script ≡ old.script
  pub numbers : new.numbers ≡ old.numbers
  pub group : new.group ≡ old.group
  pub next : new.next ≡ old.next

-- The graft at this index ends.
pub record Ends (old : Progress) (index : ℕ) (outcome : Outcome) (new : Progress) : Type 0 where
  pub entry : GraftEntry
  pub there : slice_get old.slots.items index ≡ Some (Made entry)
  pub seat : Seat
  pub seated : slice_get old.seats.items entry.peering.0 ≡ Some seat
  pub same : SameScript old new
  pub tasks : new.tasks.items ≡ old.tasks.items
  pub changes : progress_state new ≡ graft_noted (progress_state old) index entry outcome seat

-- of the tasks before this index, those that weren't issued are held up
abbrev pub HeldUpTo : Progress → ℕ → Type 0
HeldUpTo p index = AllByRecursion (IsGraftHeldUp (progress_state p)) (unissued (take index p.tasks.items))

pub record IsUnchanged (old new : Progress) : Type 0 where
  pub same : SameScript old new
  pub state_is : progress_state new ≡ progress_state old

module _ {C : Type 0} where
  -- The order of a task's graft goes to the router of its peering's seat, and is recorded in the graft's slot.
  pub record IssuesGraft (old : Progress) (task : Task) (moves : Move) (number : ℕ)
      (before : Post (Item C)) (new : Progress) (after : Post (Item C)) : Type 0 where
    pub index : ℕ
    pub is_index : index + 1 ≡ task.graft
    pub entry : GraftEntry
    pub there : slice_get old.slots.items index ≡ Some (Made entry)
    pub seat : Seat
    pub seated : slice_get old.seats.items entry.peering.0 ≡ Some seat
    pub same : SameScript old new
    pub tasks : new.tasks.items ≡ old.tasks.items
    pub changes : progress_state new ≡ graft_issued (progress_state old) index entry seat
    pub wrote : Wrote before
        (deed_of before (operator_code (Order task.step number)) None ((seat.place.0, GraftOrder task.graft entry.peering entry.target) ∷ []) ∷ []) after

  -- A task is visited after those before it, which are issued or held up; it is then issued or held up too.
  pub record VisitsTask (old : Progress) (index : ℕ) (before : Post (Item C)) (new : Progress) (after : Post (Item C)) : Type 0 where
    pub deeds : List (Deed (Item C))
    pub wrote : Wrote before deeds after
    pub none : AllByRecursion TakesNone deeds
    pub no_go : BeginNoGroup deeds
    pub same : SameScript old new
    pub as_many : length new.tasks.items ≡ length old.tasks.items
    pub keeps : IsKnown old → OperatorInvariant (progress_state old) → HeldUpTo old index → OperatorInvariant (progress_state new)
    pub held : IsKnown old → OperatorInvariant (progress_state old) → HeldUpTo old index → HeldUpTo new (index + 1)
    pub replay : IsKnown old → OperatorInvariant (progress_state old) → HeldUpTo old index → (session : C → SessionValue)
        → Replay (acts session) (actor_of before) (own_part_of (progress_state old)) deeds (own_part_of (progress_state new))

  -- A whole call: what it wrote leads from the old part to the new one, and all stays sound.
  pub record Does (old : Progress) (before : Post (Item C)) (deeds : List (Deed (Item C))) (new : Progress) (after : Post (Item C)) : Type 0 where
    pub wrote : Wrote before deeds after
    pub replay : (session : C → SessionValue)
        → Replay (acts session) (actor_of before) (own_part_of (progress_state old)) deeds (own_part_of (progress_state new))
    pub known : new.known ≡ old.known
    pub sound : ProgressInvariant new

  pub record Turns (old : Progress) (before : Post (Item C)) (new : Progress) (after : Post (Item C)) : Type 0 where
    pub deeds : List (Deed (Item C))
    pub does : Does old before deeds new after
    pub none : AllByRecursion TakesNone deeds
    pub no_go : BeginNoGroup deeds
    pub settled : NothingToOrder old.known.setup (part_of_state (progress_state new))

  pub record TakesItem (from : ℕ) (item : Item C) (old : Progress) (before : Post (Item C)) (new : Progress) (after : Post (Item C)) : Type 0 where
    pub deed : Deed (Item C)
    pub does : Does old before (deed ∷ []) new after
    pub takes : deed.taken ≡ Some (from, item)

  -- The next group begins, unless it is held up: its evacuate steps give what they should.
  pub record BeginsNextGroup (old : Progress) (before : Post (Item C)) (new : Progress) (after : Post (Item C)) (answer : Bool) : Type 0 where
    pub deeds : List (Deed (Item C))
    pub does : Does old before deeds new after
    pub none : AllByRecursion TakesNone deeds
    pub made : (answer ≡ false) ↔ (deeds ≡ [])
    pub held : (answer ≡ false) ↔ IsHeldUp old.known.setup (part_of_state (progress_state old))
    pub few : length deeds ≤ 1
    pub emptied : answer ≡ true → GivesEmptiedSessions old.known.setup (part_of_state (progress_state old)) (part_of_state (progress_state new))
