-- A task that is issued: what it makes, and what stays true.
use Rattle.std.proofs.Common.{◌≡◌, ℕ, zero, suc, ◌+◌, ◌<◌, ◌≤◌, ◌==◌, nat_lt, Bool, true, false, not, ◌&&◌, List, [], ◌∷◌}
use Rattle.std.proofs.Common.{◌++◌, length, Option, Some, None, refl, sym, ap, ◌∙◌, subst, inl, inr, arith}
use Rattle.std.specs.Prelude.{◌≢◌, ◌⊎◌, slice_get, if◌then◌else◌}
use Rattle.std.specs.List.{AllByRecursion}
use Rattle.std.specs.Option.{option_map}
use Rattle.std.proofs.lemmas.Bool.Decides.{nat_tests}
use Rattle.std.proofs.lemmas.Option.{slice_get_within}
use Rattle.graft_steps.specs.declared.log.GraftEntry.{GraftEntry}
use Rattle.graft_model.specs.Points.{at}
use Rattle.graft_model.specs.Setups.{ScriptStep, SayStep, MoveStep, EvacuateStep, SettleStep, ScriptGraft, group_of, grafts_in, graft_at}
use Rattle.graft_model.specs.OperatorRows.{OrderTo, SayTo, OrdersSay, OrdersGraft, number_by}
use Rattle.graft_model.specs.Placements.{target_in, placement}
use Rattle.graft_model.proofs.Numbers.{index_of_graft, steps_rise}
use Rattle.operator_state.specs.declared.grafts.Move.{Move}
use Rattle.operator_state.specs.declared.grafts.Seat.{Seat}
use Rattle.operator_state.specs.declared.grafts.Slot.{Slot}
use Rattle.operator_state.specs.declared.grafts.Slot.TheVariants.{Unmade, Stays, Made}
use Rattle.operator_state.specs.declared.groups.Task.{Task}
use Rattle.operator_state.specs.Grafts.{is_waiting, outcome_at}
use Rattle.operator_state.specs.Slots.{slot_at, move_of, source_in, outcome_in, given_in}
use Rattle.operator_state.specs.Tasks.{is_task, has_task}
use Rattle.operator_state.specs.States.{State, is_say, issued_in, part_of_state}
use Rattle.operator_state.specs.Keeps.{Precedes, Rises, IsGraftTask, IsWaitingTask, IsMade, IsSlot, slot_waits, InTurn}
use Rattle.operator_state.specs.Keeps.{SlotsStand, IsSeat, SeatsStand, OperatorInvariant, with_slots}
use Rattle.operator_state.specs.Issues.{IsGraftHeldUp, waiting_are, issued_entry, moving_seat, graft_issued, LetsGraft, LetsSay}
use Rattle.operator_state.proofs.Lists.{by_test, compare, get_set_same, get_set_other, length_set, there_is, one_member, all_append, all_map}
use Rattle.operator_state.proofs.Lists.{all_append_left, all_append_right, one_passes, any_about, any_here, any_without}
use Rattle.operator_state.proofs.TaskOrder.{task_names, is_that_task, is_other_step, is_other_graft, follow, precede, once_in, rises_without}
use Rattle.operator_state.proofs.SlotLaws.{slot_next, source_set, outcome_stays, given_stays, graft_there, number, own_source, own_outcome}
use Rattle.operator_state.proofs.SlotLaws.{own_target, IsOwned, owner, slot_there, same_entry, waiting_has_no_outcome, ordered_has_ended}
use Rattle.operator_state.proofs.Scripts.{groups_rise}

-- a say of the group or an earlier one that isn't issued waits
pub unissued_waits : (s : State) (m : ℕ) → is_say (slice_get s.setup.steps m) ≡ true → m < s.next → issued_in s m ≡ false → has_task s.waiting m 0 ≡ true
unissued_waits s m say before unissued = elim (by_test (has_task s.waiting m 0)) [
  | inl e ↦ e
  | inr e ↦
      let f : nat_lt m s.next ≡ true = grind (arith, nat_tests) in
      let g : issued_in s m ≡ true = ap (λ b. b && nat_lt m s.next && not (has_task s.waiting m 0)) say
      ∙ ap (λ b. true && b && not (has_task s.waiting m 0)) f ∙ ap (λ b. true && true && not b) e in
      absurd (let h : false ≡ true = sym unissued ∙ g in cc)
]

pub waits_unissued : (s : State) (m : ℕ) → has_task s.waiting m 0 ≡ true → issued_in s m ≡ false
waits_unissued s m e = elim (by_test (is_say (slice_get s.setup.steps m) && nat_lt m s.next)) [
  | inl f ↦ ap (λ b. b && not (has_task s.waiting m 0)) f ∙ ap (λ b. true && not b) e
  | inr f ↦ ap (λ b. b && not (has_task s.waiting m 0)) f
]

-- a task that is held up has a graft
pub held_has_graft : (s : State) (task : Task) → IsGraftHeldUp s task → task.graft ≢ 0
held_has_graft s task h zero_is = let e : None ≡ Some (Made h.entry) = sym (ap (slot_at s.slots) zero_is) ∙ h.is in cc

-- a task with a graft is for one of its step
pub waits_for_graft : (s : State) (keeps : OperatorInvariant s) (task : Task) → IsWaitingTask s.setup s.group s.next task → task.graft ≢ 0
    → IsGraftTask s.setup task
waits_for_graft s keeps task w some = by_step found.0 found.1
  where
    found : (step : ScriptStep) × (slice_get s.setup.steps task.step ≡ Some step)
    found = there_is s.setup.steps task.step (let l : task.step < s.next = w.before in let m : s.next ≤ length s.setup.steps = keeps.ends.within in omega arith)

    by_step : (step : ScriptStep) → slice_get s.setup.steps task.step ≡ Some step → IsGraftTask s.setup task
    by_step (SayStep p bytes) e = absurd (some (w.says p bytes e))
    by_step (MoveStep p target) e = w.moves p target e
    by_step (EvacuateStep router) e = w.evacuates router e
    by_step SettleStep e = absurd (w.issuable e)

-- a task that is held up has no remote say anything, and its graft is of another peering than one that isn't held up
pub held_lets_say : (s : State) (p : ℕ) (tasks : List Task) → AllByRecursion (IsGraftHeldUp s) tasks → AllByRecursion (LetsSay s p) tasks
held_lets_say s p tasks held = all_map (IsGraftHeldUp s) (LetsSay s p) tasks (λ task h bytes is. held_has_graft s task h) held

pub held_lets_graft : (s : State) (p : ℕ) (seat : Seat) (tasks : List Task) → slice_get s.seats p ≡ Some seat → seat.moving ≡ false
    → AllByRecursion (IsGraftHeldUp s) tasks → AllByRecursion (LetsGraft s p) tasks
held_lets_graft s p seat tasks seated still held = all_map (IsGraftHeldUp s) (LetsGraft s p) tasks (λ task h entry at of_p.
    let same : h.entry ≡ entry = same_entry h.entry entry (sym h.is ∙ at) in
    let seats_are : h.seat ≡ seat = one_member (slice_get s.seats p) _ _
    (sym (ap (slice_get s.seats) (ap (λ (y : GraftEntry). y.peering.0) same ∙ of_p)) ∙ h.seated) seated in
    let f : true ≡ false = sym h.moving ∙ ap (λ (y : Seat). y.moving) seats_are ∙ still in cc) held

module _ (s : State) (keeps : OperatorInvariant s) (kept rest : List Task) (task : Task) (waiting : s.waiting ≡ kept ++ task ∷ rest) where
  rising : Rises (kept ++ task ∷ rest)
  rising = subst Rises waiting keeps.rising

  all_wait : AllByRecursion (IsWaitingTask s.setup s.group s.next) (kept ++ task ∷ rest)
  all_wait = subst (λ tasks. AllByRecursion (IsWaitingTask s.setup s.group s.next) tasks) waiting keeps.waiting

  pub waits : IsWaitingTask s.setup s.group s.next task
  waits = (all_append_right (IsWaitingTask s.setup s.group s.next) kept (task ∷ rest) all_wait).0

  others_wait : AllByRecursion (IsWaitingTask s.setup s.group s.next) (kept ++ rest)
  others_wait = all_append (IsWaitingTask s.setup s.group s.next) kept rest (all_append_left (IsWaitingTask s.setup s.group s.next) kept
      (task ∷ rest) all_wait) (all_append_right (IsWaitingTask s.setup s.group s.next) kept (task ∷ rest) all_wait).1

  others_rise : Rises (kept ++ rest)
  others_rise = rises_without kept task rest rising

  -- the task is there, and then it isn't
  pub task_waits : has_task s.waiting task.step task.graft ≡ true
  task_waits = ap (λ tasks. has_task tasks task.step task.graft) waiting
      ∙ any_here (is_task task.step task.graft) kept task rest (is_that_task task.step task.graft task refl refl)

  task_is_out : has_task (kept ++ rest) task.step task.graft ≡ false
  task_is_out = once_in kept task rest rising

  -- any other one stays
  other_stays : (n k : ℕ) → is_task n k task ≡ false → has_task (kept ++ rest) n k ≡ has_task s.waiting n k
  other_stays n k e = sym (any_without (is_task n k) kept task rest e) ∙ ap (λ tasks. has_task tasks n k) (sym waiting)

  -- a task that waits stands before this one, is it, or stands behind it
  about : (P : Task → Type 0) → AllByRecursion P kept → (n k : ℕ) → has_task s.waiting n k ≡ true
      → ((other : Task) × (is_task n k other ≡ true) × P other)
      ⊎ ((is_task n k task ≡ true) ⊎ ((other : Task) × (is_task n k other ≡ true) × Precedes task other))
  about P all n k e = elim (any_about (is_task n k) kept task rest (ap (λ tasks. has_task tasks n k) (sym waiting) ∙ e)) [
    | inl before ↦ inl (one_passes (is_task n k) P kept all before)
    | inr (inl here) ↦ inr (inl here)
    | inr (inr behind) ↦ inr (inr (one_passes (is_task n k) (Precedes task) rest (follow kept task rest rising) behind))
  ]

  -- the slots stand where no graft's task was taken out
  module _ (alone : (g : ScriptGraft) (i : ℕ) → slice_get (grafts_in s.setup) i ≡ Some g → is_task g.step g.graft task ≡ false) where
    slots_without : SlotsStand s.setup s.group (kept ++ rest) s.slots
    slots_without = record {
      all = keeps.slots.all;
      each = λ i g slot at_index there. (
          let was = keeps.slots.each i g slot at_index there in
          record { fits = was.fits; past = was.past; now = λ e. was.now e ∙ sym (other_stays g.step g.graft (alone g i at_index)); later = was.later });
      in_turn = keeps.slots.in_turn;
    }

  -- ---- a say

  module _ (p : ℕ) (bytes : List ℕ) (is : slice_get s.setup.steps task.step ≡ Some (SayStep p bytes)) where
    no_graft : task.graft ≡ 0
    no_graft = waits.says p bytes is

    say_waits : has_task s.waiting task.step 0 ≡ true
    say_waits = ap (has_task s.waiting task.step) (sym no_graft) ∙ task_waits

    say_is_out : has_task (kept ++ rest) task.step 0 ≡ false
    say_is_out = ap (has_task (kept ++ rest) task.step) (sym no_graft) ∙ task_is_out

    say_issued : (m : ℕ) → issued_in (waiting_are s (kept ++ rest)) m ≡ at (issued_in s) task.step true m
    say_issued m = elim (by_test (m == task.step)) [
      | inl e ↦
          let f : m ≡ task.step = grind (arith, nat_tests) in
          let l : task.step < s.next = waits.before in
          let g : nat_lt task.step s.next ≡ true = grind (arith, nat_tests) in
          ap (issued_in (waiting_are s (kept ++ rest))) f
          ∙ ap (λ b. b && nat_lt task.step s.next && not (has_task (kept ++ rest) task.step 0)) (ap is_say is)
          ∙ ap (λ b. true && b && not (has_task (kept ++ rest) task.step 0)) g
          ∙ ap (λ b. true && true && not b) say_is_out
          ∙ sym (ap (λ b. if b then true else issued_in s m) e)
      | inr e ↦
          let ne : task.step ≢ m = λ f. grind (arith, nat_tests) in
          ap (λ b. is_say (slice_get s.setup.steps m) && nat_lt m s.next && not b) (other_stays m 0 (is_other_step m 0 task ne))
          ∙ sym (ap (λ b. if b then true else issued_in s m) e)
    ]

    pub say_keeps : OperatorInvariant (waiting_are s (kept ++ rest))
    say_keeps = record {
      sound = keeps.sound;
      ends = keeps.ends;
      waiting = others_wait;
      rising = others_rise;
      slots = slots_without (λ g i at_index. is_other_graft g.step g.graft task
          (λ same. let n : g.graft ≡ i + 1 = number s.setup s.slots i g at_index in let z : task.graft ≡ 0 = no_graft in omega arith));
      seats = keeps.seats;
    }

    pub say_row : AllByRecursion (LetsSay s p) kept
        → OrdersSay s.setup task.step 0 (part_of_state s) None (SayTo p task.step ∷ []) (part_of_state (waiting_are s (kept ++ rest)))
    say_row clear = record {
      alone = refl;
      group = waits.group_is;
      unissued = waits_unissued s task.step say_waits;
      peering = p;
      bytes = bytes;
      is = is;
      earlier = λ m other l group e. elim (by_test (issued_in s m)) [
        | inl f ↦ f
        | inr f ↦
            let w : has_task s.waiting m 0 ≡ true = unissued_waits s m (ap is_say e) (let h : task.step < s.next = waits.before in omega arith) f in
            elim (about (LetsSay s p) clear m 0 w) [
              | inl (x, names, lets) ↦ let named = task_names m 0 x names in absurd (lets other (ap (slice_get s.setup.steps) named.0 ∙ e) named.1)
              | inr (inl names) ↦ absurd (let same : task.step ≡ m = (task_names m 0 task names).0 in omega arith)
              | inr (inr (x, names, behind)) ↦
                  absurd (let same : x.step ≡ m = (task_names m 0 x names).0 in let le : task.step ≤ x.step = behind.step in omega arith)
            ]
      ];
      takes = refl;
      sends = refl;
      effect = ap (λ (f : ℕ → Bool). record (part_of_state s) { issued = f }) (λ i m. say_issued m i);
    }

  -- ---- a graft

  -- the graft of a task is made
  pub made_there : IsGraftTask s.setup task → (moves : Move) × (move_of (slot_at s.slots task.graft) ≡ Some moves)
  made_there of_step = by_graft (graft_at s.setup task.graft) refl
    where
      by_slot : (i : ℕ) (g : ScriptGraft) → task.graft ≡ i + 1 → slice_get (grafts_in s.setup) i ≡ Some g → g.step ≡ task.step
          → (slot : Slot) × (slice_get s.slots i ≡ Some slot) × IsSlot s.setup s.group s.waiting g slot
          → (moves : Move) × (move_of (slot_at s.slots task.graft) ≡ Some moves)
      by_slot i g is at_index step (slot, e, stands) =
          by_kind slot (ap (slot_at s.slots) is ∙ slot_next s.slots i ∙ e) (stands.now (ap (group_of s.setup) step ∙ waits.group_is)
          ∙ ap (has_task s.waiting g.step) (number s.setup s.slots i g at_index ∙ sym is) ∙ ap (λ n. has_task s.waiting n task.graft) step ∙ task_waits)
        where
          by_kind : (slot : Slot) → slot_at s.slots task.graft ≡ Some slot → slot_waits slot ≡ true
              → (moves : Move) × (move_of (slot_at s.slots task.graft) ≡ Some moves)
          by_kind Unmade f w = absurd cc
          by_kind (Stays k p router) f w = absurd cc
          by_kind (Made entry) f w = (record { peering = entry.peering; target = entry.target }, ap move_of f)

      by_graft : (o : Option ScriptGraft) → graft_at s.setup task.graft ≡ o → (moves : Move) × (move_of (slot_at s.slots task.graft) ≡ Some moves)
      by_graft None e = absurd (let f : None ≡ Some task.step = sym (ap (option_map (λ (x : ScriptGraft). x.step)) e) ∙ of_step in cc)
      by_graft (Some g) e =
          let at_i = index_of_graft s.setup task.graft g e in
          let step : g.step ≡ task.step = (let f : Some g.step ≡ Some task.step = sym (ap (option_map (λ (x : ScriptGraft). x.step)) e) ∙ of_step in cc) in
          by_slot at_i.0 g at_i.1 at_i.2 step (slot_there s.setup s.group s.waiting s.slots keeps.slots at_i.0 g at_i.2)

  module _ (of_step : IsGraftTask s.setup task) (index : ℕ) (is_index : index + 1 ≡ task.graft)
      (entry : GraftEntry) (there : slice_get s.slots index ≡ Some (Made entry))
      (seat : Seat) (seated : slice_get s.seats entry.peering.0 ≡ Some seat) (still : seat.moving ≡ false)
      (clear : AllByRecursion (LetsGraft s entry.peering.0) kept) where
    abbrev after : State
    after = waiting_are (graft_issued s index entry seat) (kept ++ rest)

    abbrev new_entry : GraftEntry
    new_entry = issued_entry entry seat.place

    own : IsOwned s.setup s.group s.waiting index (Made entry)
    own = owner s.setup s.group s.waiting s.slots keeps.slots index (Made entry) there

    abbrev g : ScriptGraft
    g = own.graft

    number_is : g.graft ≡ index + 1
    number_is = number s.setup s.slots index g own.index

    known : graft_at s.setup g.graft ≡ Some g
    known = graft_there s.setup index g own.index

    same_number : g.graft ≡ task.graft
    same_number = number_is ∙ is_index

    same_step : g.step ≡ task.step
    same_step = one_step (graft_at s.setup task.graft) (sym (ap (graft_at s.setup) same_number) ∙ known) of_step
      where
        one_step : (o : Option ScriptGraft) → o ≡ Some g → option_map (λ (x : ScriptGraft). x.step) o ≡ Some task.step → g.step ≡ task.step
        one_step o e f = let h : Some g.step ≡ Some task.step = sym (ap (option_map (λ (x : ScriptGraft). x.step)) e) ∙ f in cc

    group_is : group_of s.setup g.step ≡ s.group
    group_is = ap (group_of s.setup) same_step ∙ waits.group_is

    names : IsMade s.setup g entry
    names = own.is.fits.made entry refl

    entry_waits : is_waiting entry.stage ≡ true
    entry_waits = own.is.now group_is ∙ ap (has_task s.waiting g.step) same_number ∙ ap (λ n. has_task s.waiting n task.graft) same_step ∙ task_waits

    is_seat : IsSeat s.setup s.slots entry.peering.0 seat
    is_seat = keeps.seats.each entry.peering.0 seat seated

    -- the grafts of the peering before it have ended
    earlier_ended : (i : ℕ) (one : GraftEntry) → i < index → slice_get s.slots i ≡ Some (Made one) → one.peering.0 ≡ entry.peering.0
        → outcome_at one.stage ≢ None
    earlier_ended i one l e of_p = by_group (compare (group_of s.setup h.graft.step) s.group)
      where
        h : IsOwned s.setup s.group s.waiting i (Made one)
        h = owner s.setup s.group s.waiting s.slots keeps.slots i (Made one) e

        its_number : h.graft.graft ≡ i + 1
        its_number = number s.setup s.slots i h.graft h.index

        steps : h.graft.step ≤ g.step
        steps = steps_rise s.setup h.graft g (graft_there s.setup i h.graft h.index) known (omega (arith, its_number, number_is, l))

        no_task : has_task s.waiting h.graft.step h.graft.graft ≡ true → ⊥
        no_task w = elim (about (LetsGraft s entry.peering.0) clear h.graft.step h.graft.graft w) [
          | inl (x, is, lets) ↦
              let at_i : slot_at s.slots x.graft ≡ Some (Made one) =
              ap (slot_at s.slots) ((task_names h.graft.step h.graft.graft x is).1 ∙ its_number) ∙ slot_next s.slots i ∙ e in
              absurd (lets one at_i of_p)
          | inr (inl is) ↦ let same : task.graft ≡ h.graft.graft = (task_names h.graft.step h.graft.graft task is).1 in
              let n : h.graft.graft ≡ i + 1 = its_number in absurd (omega arith)
          | inr (inr (x, is, behind)) ↦
              let named = task_names h.graft.step h.graft.graft x is in
              let a : task.step ≤ x.step = behind.step in
              let b : x.step ≡ h.graft.step = named.0 in
              let c : h.graft.step ≤ g.step = steps in
              let d : g.step ≡ task.step = same_step in
              let f : task.graft < x.graft = behind.graft (omega arith) in
              let k : x.graft ≡ h.graft.graft = named.1 in
              let n : h.graft.graft ≡ i + 1 = its_number in
              absurd (omega arith)
        ]

        by_group : (group_of s.setup h.graft.step < s.group) ⊎ ((group_of s.setup h.graft.step ≡ s.group) ⊎ (s.group < group_of s.setup h.graft.step))
            → outcome_at one.stage ≢ None
        by_group (inl less) = h.is.past less one refl
        by_group (inr (inl same)) = elim (by_test (is_waiting one.stage)) [
          | inl w ↦ absurd (no_task (sym (h.is.now same) ∙ w))
          | inr w ↦ ordered_has_ended one.stage w (is_seat.still.0 still i one e of_p)
        ]
        by_group (inr (inr more)) = let up : group_of s.setup h.graft.step ≤ group_of s.setup g.step =
            groups_rise s.setup h.graft.step g.step steps in let k : group_of s.setup g.step ≡ s.group = group_is in absurd (omega arith)

    -- what stands in the slots then
    index_within : index < length s.slots
    index_within = slice_get_within s.slots index (Made entry) there

    at_new : slice_get after.slots index ≡ Some (Made new_entry)
    at_new = get_set_same s.slots index (Made new_entry) index_within

    at_other : (i : ℕ) → i ≢ index → slice_get after.slots i ≡ slice_get s.slots i
    at_other i ne = get_set_other s.slots index i (Made new_entry) ne

    -- a slot is the new one, or one that stood there
    which : (i : ℕ) (slot : Slot) → slice_get after.slots i ≡ Some slot
        → ((i ≡ index) × (slot ≡ Made new_entry)) ⊎ ((i ≢ index) × (slice_get s.slots i ≡ Some slot))
    which i slot e = elim (by_test (i == index)) [
      | inl f ↦ let is : i ≡ index = grind (arith, nat_tests) in
          inl (is, one_member (slice_get after.slots index) _ _ (sym (ap (slice_get after.slots) is) ∙ e) at_new)
      | inr f ↦ let ne : i ≢ index = λ same. grind (arith, nat_tests) in inr (ne, sym (at_other i ne) ∙ e)
    ]

    -- the same of entries
    which_entry : (i : ℕ) (one : GraftEntry) → slice_get after.slots i ≡ Some (Made one)
        → ((i ≡ index) × (one ≡ new_entry)) ⊎ ((i ≢ index) × (slice_get s.slots i ≡ Some (Made one)))
    which_entry i one e = elim (which i (Made one) e) [ inl (is, new) ↦ inl (is, same_entry one new_entry (ap Some new)) | inr other ↦ inr other ]

    same_outcomes : outcome_in after.slots ≡ outcome_in s.slots
    same_outcomes = outcome_stays s.slots index entry new_entry there (sym (waiting_has_no_outcome entry.stage entry_waits))

    same_given : given_in s.setup after.slots ≡ given_in s.setup s.slots
    same_given = given_stays s.slots index entry new_entry there s.setup refl

    new_slot : IsSlot s.setup s.group (kept ++ rest) g (Made new_entry)
    new_slot = record {
      fits = record {
        unmade = λ e. absurd cc;
        stays = λ k p router e. absurd cc;
        made = λ one e. subst (IsMade s.setup g) (same_entry new_entry one (ap Some e))
            (record { graft = names.graft; peering = names.peering; target = names.target; there = names.there; source = (λ none. absurd cc, λ w. absurd cc) });
      };
      past = λ less. absurd (let e : group_of s.setup g.step ≡ s.group = group_is in omega arith);
      now = λ e. sym (ap (has_task (kept ++ rest) g.step) same_number ∙ ap (λ n. has_task (kept ++ rest) n task.graft) same_step ∙ task_is_out);
      later = λ more. absurd (let e : group_of s.setup g.step ≡ s.group = group_is in omega arith);
    }

    slots_stand : SlotsStand s.setup s.group (kept ++ rest) after.slots
    slots_stand = record {
      all = length_set s.slots index (Made new_entry) ∙ keeps.slots.all;
      each = each;
      in_turn = in_turn;
    }
      where
        each : (i : ℕ) (x : ScriptGraft) (slot : Slot) → slice_get (grafts_in s.setup) i ≡ Some x → slice_get after.slots i ≡ Some slot
            → IsSlot s.setup s.group (kept ++ rest) x slot
        each i x slot at_index e = elim (which i slot e) [
          | inl (is, new) ↦
              let same : g ≡ x = one_member (slice_get (grafts_in s.setup) index) _ _ own.index (sym (ap (slice_get (grafts_in s.setup)) is) ∙ at_index) in
              subst (λ (y : ScriptGraft). IsSlot s.setup s.group (kept ++ rest) y slot) same
              (subst (IsSlot s.setup s.group (kept ++ rest) g) (sym new) new_slot)
          | inr (ne, old) ↦
              let was = keeps.slots.each i x slot at_index old in
              let differs : is_task x.step x.graft task ≡ false = is_other_graft x.step x.graft task
              (λ same. ne (let a : x.graft ≡ i + 1 = number s.setup s.slots i x at_index in let b : index + 1 ≡ task.graft = is_index in omega arith)) in
              record { fits = was.fits; past = was.past; now = λ f. was.now f ∙ sym (other_stays x.step x.graft differs); later = was.later }
        ]

        in_turn : InTurn after.slots
        in_turn i j one other l e f same ordered = elim (which_entry i one e) [
          | inl (at_i, new) ↦ elim (which_entry j other f) [
            | inl (at_j, new') ↦ absurd (omega arith)
            | inr (ne, old) ↦
                let of_p : entry.peering.0 ≡ other.peering.0 = sym (ap (λ (x : GraftEntry). x.peering.0) new) ∙ same in
                absurd (keeps.slots.in_turn index j entry other (omega arith) there old of_p ordered (waiting_has_no_outcome entry.stage entry_waits))
          ]
          | inr (ne, old) ↦ elim (which_entry j other f) [
            | inl (at_j, new') ↦ earlier_ended i one (omega arith) old (same ∙ ap (λ (x : GraftEntry). x.peering.0) new')
            | inr (ne', old') ↦ keeps.slots.in_turn i j one other l old old' same ordered
          ]
        ]

    same_place : (q : ℕ) → placement s.setup (with_slots s.setup after.slots) q ≡ placement s.setup (with_slots s.setup s.slots) q
    same_place q =
        λ i. placement s.setup (record { group = 0; issued = λ n. false; given = same_given i; source = source_in s.slots; outcome = same_outcomes i }) q

    seats_stand : SeatsStand s.setup after.slots after.seats
    seats_stand = record {
      all = length_set s.seats entry.peering.0 (moving_seat seat) ∙ keeps.seats.all;
      each = λ q other e. elim (by_test (q == entry.peering.0)) [
        | inl f ↦
            let same : q ≡ entry.peering.0 = grind (arith, nat_tests) in
            let moved : other ≡ moving_seat seat = one_member (slice_get after.seats entry.peering.0) _ _ (sym (ap (slice_get after.seats) same) ∙ e)
            (get_set_same s.seats entry.peering.0 (moving_seat seat) (slice_get_within s.seats entry.peering.0 seat seated)) in
            subst (λ (x : ℕ). IsSeat s.setup after.slots x other) (sym same)
            (subst (λ (x : Seat). IsSeat s.setup after.slots entry.peering.0 x) (sym moved) new_seat)
        | inr f ↦
            let ne : q ≢ entry.peering.0 = λ same. grind (arith, nat_tests) in
            other_seat q other ne (keeps.seats.each q other (sym (get_set_other s.seats entry.peering.0 q (moving_seat seat) ne) ∙ e))
      ];
    }
      where
        new_seat : IsSeat s.setup after.slots entry.peering.0 (moving_seat seat)
        new_seat = record {
          place = is_seat.place ∙ sym (same_place entry.peering.0);
          there = is_seat.there;
          still = (λ e. absurd cc, λ none. absurd (let h : true ≡ false = none index new_entry at_new refl in cc));
        }

        other_seat : (q : ℕ) (other : Seat) → q ≢ entry.peering.0 → IsSeat s.setup s.slots q other → IsSeat s.setup after.slots q other
        other_seat q other ne was = record {
          place = was.place ∙ sym (same_place q);
          there = was.there;
          still = (
            λ e i one f of_q. elim (which_entry i one f) [
              | inl (is, new) ↦ absurd (ne (sym of_q ∙ ap (λ (x : GraftEntry). x.peering.0) new))
              | inr (differs, old) ↦ was.still.0 e i one old of_q
            ],
            λ none. was.still.1 (λ i one f of_q. elim (by_test (i == index)) [
              | inl e ↦
                  let same : i ≡ index = grind (arith, nat_tests) in
                  let is_old : one ≡ entry = same_entry one entry (sym f ∙ ap (slice_get s.slots) same ∙ there) in
                  absurd (ne (sym of_q ∙ ap (λ (x : GraftEntry). x.peering.0) is_old))
              | inr e ↦
                  let differs : i ≢ index = λ same. grind (arith, nat_tests) in
                  none i one (at_other i differs ∙ f) of_q
            ]),
          );
        }

    pub graft_keeps : OperatorInvariant after
    graft_keeps = record { sound = keeps.sound; ends = keeps.ends; waiting = others_wait; rising = others_rise; slots = slots_stand; seats = seats_stand }

    -- a graft that is made and stands before it has ended
    earlier : (other : ScriptGraft) → graft_at s.setup other.graft ≡ Some other → other.peering ≡ g.peering → other.graft < g.graft
        → target_in s.setup (part_of_state s) other ≢ None → outcome_in s.slots other.graft ≢ None
    earlier other other_known of_p l made none = by_slot (slot_there s.setup s.group s.waiting s.slots keeps.slots at_i.0 other at_i.2)
      where
        at_i : (i : ℕ) × (other.graft ≡ i + 1) × (slice_get (grafts_in s.setup) i ≡ Some other)
        at_i = index_of_graft s.setup other.graft other other_known

        by_slot : (slot : Slot) × (slice_get s.slots at_i.0 ≡ Some slot) × IsSlot s.setup s.group s.waiting other slot → ⊥
        by_slot (Unmade, e, is) = made (own_target s.setup s.slots at_i.0 other at_i.2 Unmade e is.fits)
        by_slot (Stays k p router, e, is) = made (own_target s.setup s.slots at_i.0 other at_i.2 (Stays k p router) e is.fits)
        by_slot (Made one, e, is) =
            earlier_ended at_i.0 one (let a : other.graft ≡ at_i.0 + 1 = at_i.1 in let b : g.graft ≡ index + 1 = number_is in omega arith) e
            ((is.fits.made one refl).peering ∙ of_p ∙ sym names.peering) (sym (own_outcome s.setup s.slots at_i.0 other at_i.2 one e) ∙ none)

    pub graft_row : (number : ℕ) → number ≡ number_by (slice_get s.setup.steps task.step) task.graft
        → OrdersGraft s.setup task.step number (part_of_state s) None
        (OrderTo seat.place.0 (record { graft = task.graft; peering = entry.peering.0; target = entry.target.0 }) ∷ []) (part_of_state after)
    graft_row noted named = record {
      graft = g;
      known = known;
      by_step = same_step;
      named = named ∙ ap (number_by (slice_get s.setup.steps task.step)) (sym same_number);
      group = ap (group_of s.setup) (sym same_step) ∙ group_is;
      target = entry.target.0;
      is = own_target s.setup s.slots index g own.index (Made entry) there own.is.fits;
      unordered = own_source s.setup s.slots index g own.index entry there ∙ ap (λ o. option_map (λ r. r.0) o) (names.source.1 entry_waits);
      unended = own_outcome s.setup s.slots index g own.index entry there ∙ waiting_has_no_outcome entry.stage entry_waits;
      earlier = earlier;
      takes = refl;
      sends = λ i. OrderTo (places i) (record { graft = sym same_number i; peering = names.peering i; target = entry.target.0 }) ∷ [];
      effect = λ i. record { group = s.group; issued = issued_is i; given = same_given i; source = sources i; outcome = same_outcomes i };
    }
      where
        places : seat.place.0 ≡ placement s.setup (part_of_state s) g.peering
        places = is_seat.place ∙ ap (placement s.setup (with_slots s.setup s.slots)) names.peering

        sources : source_in after.slots ≡ at (source_in s.slots) g.graft (Some (placement s.setup (part_of_state s) g.peering))
        sources = source_set s.slots index new_entry index_within ∙ (λ i. at (source_in s.slots) (sym number_is i) (Some (places i)))

        issued_is : issued_in after ≡ issued_in s
        issued_is = λ i m. ap (λ b. is_say (slice_get s.setup.steps m) && nat_lt m s.next && not b)
            (other_stays m 0 (is_other_graft m 0 task (λ zero_is. let e : index + 1 ≡ task.graft = is_index in omega arith))) i

    -- what is held up stays so
    pub held_still : (other : Task) → other.graft ≢ task.graft → IsGraftHeldUp s other → IsGraftHeldUp after other
    held_still other differs h = record {
      entry = h.entry;
      is = by_number other.graft refl;
      seat = h.seat;
      seated = get_set_other s.seats entry.peering.0 h.entry.peering.0 (moving_seat seat) (λ same. (
          let seats_are : h.seat ≡ seat = one_member (slice_get s.seats entry.peering.0) _ _ (sym (ap (slice_get s.seats) same) ∙ h.seated) seated in
          let f : true ≡ false = sym h.moving ∙ ap (λ (x : Seat). x.moving) seats_are ∙ still in cc)) ∙ h.seated;
      moving = h.moving;
    }
      where
        by_number : (k : ℕ) → other.graft ≡ k → slot_at after.slots other.graft ≡ Some (Made h.entry)
        by_number zero e = absurd (held_has_graft s other h e)
        by_number (suc k) e = ap (slot_at after.slots) e ∙ at_other k (λ same. differs (omega (arith, e, same, is_index))) ∙ sym (ap (slot_at s.slots) e) ∙ h.is

    -- the tasks before this one are of other grafts
    pub held_others : AllByRecursion (IsGraftHeldUp s) kept → AllByRecursion (IsGraftHeldUp after) kept
    held_others held = each kept held (all_append_left (IsWaitingTask s.setup s.group s.next) kept (task ∷ rest) all_wait) (precede kept task rest rising)
      where
        differs : (other : Task) → IsGraftHeldUp s other → IsWaitingTask s.setup s.group s.next other → Precedes other task → other.graft ≢ task.graft
        differs other h w before same =
            let its_step : option_map (λ (x : ScriptGraft). x.step) (graft_at s.setup other.graft) ≡ Some other.step =
            waits_for_graft s keeps other w (held_has_graft s other h) in
            let steps : Some other.step ≡ Some task.step =
            sym its_step ∙ ap (λ k. option_map (λ (x : ScriptGraft). x.step) (graft_at s.setup k)) same ∙ of_step in
            let step : other.step ≡ task.step = cc in
            let l : other.graft < task.graft = before.graft step in
            absurd (omega arith)

        each : (tasks : List Task) → AllByRecursion (IsGraftHeldUp s) tasks → AllByRecursion (IsWaitingTask s.setup s.group s.next) tasks
            → AllByRecursion (λ t. Precedes t task) tasks → AllByRecursion (IsGraftHeldUp after) tasks
        each [] helds all befores = tt
        each (t ∷ tasks) helds all befores = (held_still t (differs t helds.0 all.0 befores.0) helds.0, each tasks helds.1 all.1 befores.1)
