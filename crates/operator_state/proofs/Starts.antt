-- How a group begins by the steps of its script: the first one, and the next one.
use Rattle.std.proofs.Common.{◌≡◌, ℕ, ◌+◌, ◌*◌, ◌<◌, ◌≤◌, false, List, [], length, take, map, Some, None, sym, ap, ◌∙◌, subst, arith}
use Rattle.std.specs.Prelude.{◌≢◌, slice_get, sum_by, All}
use Rattle.std.specs.List.{AllByRecursion}
use Rattle.std.specs.Option.{option_map}
use Rattle.std.proofs.lemmas.List.{length-take}
use Rattle.std.proofs.lemmas.List.Sums.{sum_by-le}
use Rattle.std.proofs.lemmas.Option.{slice_get_within, get_or_from_slice_get, slice_get-map}
use Rattle.graft_edge.specs.declared.ids.RouterId.{RouterId}
use Rattle.graft_model.specs.First.{first_operator}
use Rattle.graft_model.specs.OperatorRows.{BeginsGroup}
use Rattle.graft_model.specs.Setups.{Setup, PeeringSetup, SettleStep, routers_in, peerings_in}
use Rattle.actor_configs.specs.declared.script.Script.{Script}
use Rattle.actor_configs.specs.declared.script.ScriptStep.{ScriptStep}
use Rattle.actor_configs.specs.declared.script.ScriptStep.TheVariants.{Say, Graft, Evacuate, Settle}
use Rattle.actor_configs.specs.Scripts.{step_for, IsScriptOf, IsWorkable, IsWorkableStep}
use Rattle.operator_state.specs.declared.evacuate.Gift.{Gift}
use Rattle.operator_state.specs.declared.grafts.Seat.{Seat}
use Rattle.operator_state.specs.declared.grafts.Slot.{Slot}
use Rattle.operator_state.specs.declared.groups.Group.{Group}
use Rattle.operator_state.specs.declared.groups.Task.{Task}
use Rattle.operator_state.specs.Grafts.{seat_at}
use Rattle.operator_state.specs.Slots.{first_slots}
use Rattle.operator_state.specs.Evacuate.{give}
use Rattle.operator_state.specs.Tasks.{unissued}
use Rattle.operator_state.specs.Groups.{grafts_by, AreNumbers, NumbersFit, IsGroupFrom}
use Rattle.operator_state.specs.States.{State, part_of_state}
use Rattle.operator_state.specs.Keeps.{StepsAreSound, OperatorInvariant}
use Rattle.operator_state.specs.Holds.{IsHeldUp, GivesEmptiedSessions}
use Rattle.operator_state.proofs.Steps.{step_at, settle_there, settle_back, as_many_routers, as_many_peerings}
use Rattle.operator_state.proofs.Tasks.{all_unissued}
use Rattle.operator_state.proofs.Ready.{group_gifts, group_tasks}
use Rattle.operator_state.proofs.GiftTasks.{group_tasks_unissued}
use Rattle.operator_state.proofs.GroupSteps.{same_gifts, same_tasks}
use Rattle.operator_state.proofs.Begins.{begun, gifts_have_slots, begun_keeps}
use Rattle.operator_state.proofs.NextGroup.{ready, next_state, next_keeps, next_row, next_emptied}
use Rattle.operator_state.proofs.FirstGroup.{first_ready, first_part}

-- ---- numbers

few_grafts : (peerings : ℕ) → peerings ≤ 256 → (step : ScriptStep) → grafts_by peerings step ≤ 256
few_grafts peerings few (Say p) = omega arith
few_grafts peerings few (Graft p target) = omega arith
few_grafts peerings few (Evacuate router) = few
few_grafts peerings few Settle = omega arith

pub numbers_fit : (peerings : ℕ) (steps : List ScriptStep) (numbers : List ℕ) → peerings ≤ 256 → length steps ≤ 4097
    → AreNumbers peerings steps numbers → NumbersFit steps numbers
numbers_fit peerings steps numbers few short are = record {
  all = are.all;
  each = λ n l. (
      let sum : sum_by (grafts_by peerings) (take n steps) ≤ length (take n steps) * 256 =
      sum_by-le (grafts_by peerings) 256 (take n steps) (λ k d m. few_grafts peerings few _) in
      let taken = length-take n steps in
      let number = are.each n l in
      omega (arith, sum, taken, number, short, l));
}

-- ---- a group that begins, as the program has it

module _ (setup : Setup) (script : Script) (is : IsScriptOf setup script) (numbers : List ℕ)
    (are : AreNumbers (length script.starts) script.steps numbers) (seats : List Seat) (from : ℕ)
    (group : Group) (begins : IsGroupFrom script numbers seats from group) where
  pub others : (n : ℕ) → from ≤ n → n < from + begins.len → slice_get setup.steps n ≢ Some SettleStep
  others n l m e = begins.ends.others n l m (settle_back setup script is n e)

  pub settle : slice_get setup.steps (from + begins.len) ≡ Some SettleStep
  settle = settle_there setup script is (from + begins.len) begins.ends.settle

  within : from + begins.len < length script.steps
  within = slice_get_within script.steps (from + begins.len) Settle begins.ends.settle

  pub gifts_are : group.gifts ≡ group_gifts setup seats from begins.len
  gifts_are = begins.gifts ∙ same_gifts setup script is numbers are seats from begins.len within

  tasks_there : group.tasks.items ≡ group_tasks setup seats from begins.len
  tasks_there = begins.tasks ∙ same_tasks setup script is numbers are seats from begins.len within

  pub none_issued : AllByRecursion (λ (task : Task). task.issued ≡ false) group.tasks.items
  none_issued = subst (AllByRecursion (λ (task : Task). task.issued ≡ false)) (sym tasks_there) (group_tasks_unissued setup seats from begins.len)

  pub tasks_are : unissued group.tasks.items ≡ group_tasks setup seats from begins.len
  tasks_are = all_unissued group.tasks.items none_issued ∙ tasks_there

-- ---- the next group

module _ (s : State) (keeps : OperatorInvariant s) (free : IsHeldUp s.setup (part_of_state s) → ⊥) (script : Script) (is : IsScriptOf s.setup script)
    (numbers : List ℕ) (are : AreNumbers (length script.starts) script.steps numbers) (group : Group)
    (begins : IsGroupFrom script numbers s.seats s.next group) where
  pub next_others : (n : ℕ) → s.next ≤ n → n < s.next + begins.len → slice_get s.setup.steps n ≢ Some SettleStep
  next_others = others s.setup script is numbers are s.seats s.next group begins

  pub next_settle : slice_get s.setup.steps (s.next + begins.len) ≡ Some SettleStep
  next_settle = settle s.setup script is numbers are s.seats s.next group begins

  next_gifts : group.gifts ≡ group_gifts s.setup s.seats s.next begins.len
  next_gifts = gifts_are s.setup script is numbers are s.seats s.next group begins

  next_tasks : unissued group.tasks.items ≡ group_tasks s.setup s.seats s.next begins.len
  next_tasks = tasks_are s.setup script is numbers are s.seats s.next group begins

  -- each gift has a slot
  pub next_fits : All (λ (gift : Gift). (1 ≤ gift.graft) × (gift.graft ≤ length s.slots)) group.gifts
  next_fits = subst (All (λ (gift : Gift). (1 ≤ gift.graft) × (gift.graft ≤ length s.slots))) (sym next_gifts)
      (gifts_have_slots s.setup (s.group + 1) s.next begins.len s.slots s.seats (ready s keeps free begins.len next_others next_settle))

  abbrev pub next_begun : State
  next_begun = next_state s keeps free begins.len next_others next_settle

  pub next_begun_keeps : OperatorInvariant next_begun
  next_begun_keeps = next_keeps s keeps free begins.len next_others next_settle

  pub next_begun_row : BeginsGroup s.setup (part_of_state s) None [] (part_of_state next_begun)
  next_begun_row = next_row s keeps free begins.len next_others next_settle

  pub next_begun_emptied : GivesEmptiedSessions s.setup (part_of_state s) (part_of_state next_begun)
  next_begun_emptied = next_emptied s keeps free begins.len next_others next_settle

  pub next_begun_is : (t : State)
      → t ≡ record s { group = s.group + 1; next = group.next; waiting = unissued group.tasks.items; slots = give group.gifts s.slots }
      → t ≡ next_begun
  next_begun_is t is_t = is_t
      ∙ (λ i. record s { group = s.group + 1; next = begins.next i; waiting = next_tasks i; slots = give (next_gifts i) s.slots })

-- ---- the beginning

all_at : {A : Type 0} (P : A → Type 0) (xs : List A) (n : ℕ) (x : A) → All P xs → slice_get xs n ≡ Some x → P x
all_at P xs n x all e = subst P (get_or_from_slice_get xs n x x e) (all n x (slice_get_within xs n x e))

module _ (setup : Setup) (script : Script) (is : IsScriptOf setup script) (workable : IsWorkable script) where
  pub steps_are_sound : StepsAreSound setup
  steps_are_sound = record {
    says = λ n p bytes e. (
        let w : p < length script.starts = all_at (IsWorkableStep script) script.steps n
        (Say (record { 0 = p })) workable.steps (step_at setup script is n ∙ ap (option_map step_for) e) in
        let f : length script.starts ≡ peerings_in setup = as_many_peerings setup script is in
        omega arith);
    moves = λ n p target e. (
        let w : (p < length script.starts) × (target < length script.rooms) = all_at (IsWorkableStep script) script.steps n
        (Graft (record { 0 = p }) (record { 0 = target })) workable.steps (step_at setup script is n ∙ ap (option_map step_for) e) in
        let a : p < length script.starts = w.0 in
        let b : target < length script.rooms = w.1 in
        let f : length script.starts ≡ peerings_in setup = as_many_peerings setup script is in
        let g : length script.rooms ≡ routers_in setup = as_many_routers setup script is in
        (omega arith, omega arith));
    evacuates = λ n router e. (
        let w : router < length script.rooms = all_at (IsWorkableStep script) script.steps n
        (Evacuate (record { 0 = router })) workable.steps (step_at setup script is n ∙ ap (option_map step_for) e) in
        let g : length script.rooms ≡ routers_in setup = as_many_routers setup script is in
        omega arith);
  }

  pub starts_are_there : (p : ℕ) (peering : PeeringSetup) → slice_get setup.peerings p ≡ Some peering → peering.start < routers_in setup
  starts_are_there p peering e =
      let f : slice_get script.starts p ≡ Some (record { 0 = peering.start }) =
      ap (λ xs. slice_get xs p) is.starts ∙ slice_get-map (λ (x : PeeringSetup). let id : RouterId = record { 0 = x.start } in id) setup.peerings p
      ∙ ap (option_map (λ (x : PeeringSetup). let id : RouterId = record { 0 = x.start } in id)) e in
      let l : peering.start < length script.rooms =
      all_at (λ (start : RouterId). start.0 < length script.rooms) script.starts p (record { 0 = peering.start }) workable.starts f in
      let g : length script.rooms ≡ routers_in setup = as_many_routers setup script is in
      omega arith

  module _ (numbers : List ℕ) (are : AreNumbers (length script.starts) script.steps numbers)
      (seats : List Seat) (seats_are : seats ≡ map seat_at script.starts) (slots : List Slot)
      (slots_are : slots ≡ first_slots (length script.starts) 0 script.steps) (group : Group) (begins : IsGroupFrom script numbers seats 0 group) where
    pub first_others : (n : ℕ) → 0 ≤ n → n < 0 + begins.len → slice_get setup.steps n ≢ Some SettleStep
    first_others = others setup script is numbers are seats 0 group begins

    pub first_settle : slice_get setup.steps (0 + begins.len) ≡ Some SettleStep
    first_settle = settle setup script is numbers are seats 0 group begins

    abbrev seats_then : List Seat
    seats_then = map seat_at (map (λ (peering : PeeringSetup). record { 0 = peering.start }) setup.peerings)

    abbrev slots_then : List Slot
    slots_then = first_slots (peerings_in setup) 0 (map step_for setup.steps)

    same_seats : seats ≡ seats_then
    same_seats = seats_are ∙ ap (map seat_at) is.starts

    same_slots : slots ≡ slots_then
    same_slots = slots_are ∙ (λ i. first_slots (as_many_peerings setup script is i) 0 (is.steps i))

    first_gifts : group.gifts ≡ group_gifts setup seats_then 0 begins.len
    first_gifts = gifts_are setup script is numbers are seats 0 group begins ∙ ap (λ xs. group_gifts setup xs 0 begins.len) same_seats

    first_tasks : unissued group.tasks.items ≡ group_tasks setup seats_then 0 begins.len
    first_tasks = tasks_are setup script is numbers are seats 0 group begins ∙ ap (λ xs. group_tasks setup xs 0 begins.len) same_seats

    pub first_fits : All (λ (gift : Gift). (1 ≤ gift.graft) × (gift.graft ≤ length slots)) group.gifts
    first_fits = subst (λ (xs : List Slot). All (λ (gift : Gift). (1 ≤ gift.graft) × (gift.graft ≤ length xs)) group.gifts) (sym same_slots)
        (subst (All (λ (gift : Gift). (1 ≤ gift.graft) × (gift.graft ≤ length slots_then))) (sym first_gifts)
        (gifts_have_slots setup 0 0 begins.len slots_then seats_then (first_ready setup steps_are_sound starts_are_there begins.len first_others first_settle)))

    abbrev pub first_begun : State
    first_begun = begun setup 0 0 begins.len slots_then seats_then (first_ready setup steps_are_sound starts_are_there begins.len first_others first_settle)

    pub first_begun_keeps : OperatorInvariant first_begun
    first_begun_keeps = begun_keeps setup 0 0 begins.len slots_then seats_then
        (first_ready setup steps_are_sound starts_are_there begins.len first_others first_settle)

    pub first_begun_part : part_of_state first_begun ≡ first_operator setup
    first_begun_part = first_part setup steps_are_sound starts_are_there begins.len first_others first_settle

    pub first_begun_is : (t : State) → t ≡ record {
      setup = setup;
      group = 0;
      next = group.next;
      waiting = unissued group.tasks.items;
      slots = give group.gifts slots;
      seats = seats;
    } → t ≡ first_begun
    first_begun_is t is_t = is_t ∙ (λ i. record {
      setup = setup;
      group = 0;
      next = begins.next i;
      waiting = first_tasks i;
      slots = give (first_gifts i) (same_slots i);
      seats = same_seats i;
    })
