-- The next group begins, where all of the group at work is done.
use Rattle.std.proofs.Common.{◌≡◌, ℕ, ◌+◌, ◌<◌, ◌≤◌, ◌==◌, nat_lt, Bool, true, false, not, ◌&&◌, List, [], length}
use Rattle.std.proofs.Common.{filter, Option, Some, None, refl, sym, ap, ◌∙◌, inl, inr, arith, ◌∷◌}
use Rattle.std.specs.Prelude.{◌≢◌, slice_get, if◌then◌else◌}
use Rattle.std.proofs.lemmas.Bool.Decides.{nat_tests}
use Rattle.std.proofs.lemmas.List.Sums.{length-filter, count_by-le-length}
use Rattle.graft_steps.specs.declared.log.GraftEntry.{GraftEntry}
use Rattle.graft_model.specs.Setups.{ScriptStep, SayStep, MoveStep, EvacuateStep, SettleStep, ScriptGraft, is_settle, group_of, groups_in, grafts_in}
use Rattle.graft_model.specs.Parts.{Gift as GiftOf, Unmade as NoGift, To, Stays as StaysAt}
use Rattle.graft_model.specs.OperatorRows.{BeginsGroup}
use Rattle.graft_model.specs.Placements.{placement}
use Rattle.graft_model.specs.Evacuations.{gift_by, gift_in_group, gift_or, gift_to}
use Rattle.graft_model.proofs.Numbers.{index_of_graft}
use Rattle.operator_state.specs.declared.grafts.Slot.{Slot}
use Rattle.operator_state.specs.declared.grafts.Slot.TheVariants.{Unmade, Stays, Made}
use Rattle.operator_state.specs.declared.groups.Task.{Task}
use Rattle.operator_state.specs.Grafts.{is_waiting, is_open}
use Rattle.operator_state.specs.Slots.{given_of, given_in}
use Rattle.operator_state.specs.Tasks.{is_task, has_task}
use Rattle.operator_state.specs.States.{State, is_say, issued_in, part_of_state}
use Rattle.operator_state.specs.Keeps.{IsWaitingTask, IsSlotOver, IsSlot, slot_waits, is_first, OperatorInvariant}
use Rattle.operator_state.specs.Holds.{IsHeldUp, GivesEmptiedSessions}
use Rattle.operator_state.proofs.Lists.{by_test, compare, one_passes}
use Rattle.operator_state.proofs.TaskOrder.{task_names}
use Rattle.operator_state.proofs.SlotLaws.{own_given, slot_there, ordered_has_ended}
use Rattle.operator_state.proofs.Rests.{unissued_there, open_there}
use Rattle.operator_state.proofs.Ready.{IsReadySlot, IsReady, group_tasks}
use Rattle.operator_state.proofs.GiftTasks.{has_say_task}
use Rattle.operator_state.proofs.Begins.{begun, begun_given, begun_source, begun_outcome, begun_keeps}

few_settles : (steps : List ScriptStep) → length (filter is_settle steps) ≤ length steps
few_settles steps = omega (arith, length-filter is_settle steps, count_by-le-length is_settle steps)

-- ---- what is done where nothing holds the operator up

module _ (s : State) (keeps : OperatorInvariant s) (free : IsHeldUp s.setup (part_of_state s) → ⊥) where
  pub nothing_waits : s.waiting ≡ []
  nothing_waits = none_there s.waiting (λ ne. free (inl (unissued_there s keeps ne)))
    where
      none_there : (xs : List Task) → ((xs ≢ []) → ⊥) → xs ≡ []
      none_there [] none = refl
      none_there (x ∷ xs) none = absurd (none (λ e. cc))

  nothing_open : (i : ℕ) (entry : GraftEntry) → slice_get s.slots i ≡ Some (Made entry) → is_open entry.stage ≡ false
  nothing_open i entry e = elim (by_test (is_open entry.stage)) [
    | inl f ↦ absurd (free (inr (inl (i + 1, open_there s keeps i entry e f))))
    | inr f ↦ f
  ]

  more_groups : s.group + 1 < groups_in s.setup
  more_groups = elim (compare (s.group + 1) (groups_in s.setup)) [
    | inl l ↦ l
    | inr (inl e) ↦ absurd (free (inr (inr (omega arith))))
    | inr (inr l) ↦ absurd (free (inr (inr (omega arith))))
  ]

  pub group_is_small : s.group + 1 < length s.setup.steps + 1
  group_is_small = let m : s.group + 1 < groups_in s.setup = more_groups in
      let f : groups_in s.setup ≤ length s.setup.steps = few_settles s.setup.steps in omega arith

  -- each graft of the group at work is over
  now_over : (i : ℕ) (g : ScriptGraft) (slot : Slot) → slice_get s.slots i ≡ Some slot → IsSlot s.setup s.group s.waiting g slot
      → group_of s.setup g.step ≡ s.group → IsSlotOver slot
  now_over i g slot e is now entry made =
      let waits : is_waiting entry.stage ≡ false = sym (ap slot_waits made) ∙ is.now now ∙ ap (λ tasks. has_task tasks g.step g.graft) nothing_waits in
      ordered_has_ended entry.stage waits (nothing_open i entry (e ∙ ap Some made))

  ready_slot : (i : ℕ) (g : ScriptGraft) (slot : Slot) → slice_get s.slots i ≡ Some slot → IsSlot s.setup s.group s.waiting g slot
      → IsReadySlot s.setup (s.group + 1) g slot
  ready_slot i g slot e is = record {
    fits = is.fits;
    past = λ less. elim (compare (group_of s.setup g.step) s.group) [
      | inl before ↦ is.past before
      | inr (inl now) ↦ now_over i g slot e is now
      | inr (inr more) ↦ absurd (omega arith)
    ];
    later = λ more. is.later (omega arith);
  }

  module _ (len : ℕ) (others : (n : ℕ) → s.next ≤ n → n < s.next + len → slice_get s.setup.steps n ≢ Some SettleStep)
      (settle : slice_get s.setup.steps (s.next + len) ≡ Some SettleStep) where
    pub ready : IsReady s.setup (s.group + 1) s.next len s.slots s.seats
    ready = record {
      sound = keeps.sound;
      begins = keeps.ends.begins;
      before = λ n l. (let h : group_of s.setup n ≤ s.group = keeps.ends.before n l in omega arith);
      others = others;
      settle = settle;
      all = keeps.slots.all;
      each = λ i g slot at_index e. ready_slot i g slot e (keeps.slots.each i g slot at_index e);
      in_turn = keeps.slots.in_turn;
      seated = keeps.seats;
    }

    abbrev pub next_state : State
    next_state = begun s.setup (s.group + 1) s.next len s.slots s.seats ready

    pub next_keeps : OperatorInvariant next_state
    next_keeps = begun_keeps s.setup (s.group + 1) s.next len s.slots s.seats ready

    abbrev tasks : List Task
    tasks = group_tasks s.setup s.seats s.next len

    -- a say of the group waits, and no other step has a task without a graft
    issued_as_before : (m : ℕ) → issued_in next_state m ≡ issued_in s m
    issued_as_before m = by_step (slice_get s.setup.steps m) refl
      where
        silent : (o : Option ScriptStep) → slice_get s.setup.steps m ≡ o → is_say o ≡ false → issued_in next_state m ≡ issued_in s m
        silent o e none =
            ap (λ b. b && nat_lt m (s.next + len + 1) && not (has_task tasks m 0)) (ap is_say e ∙ none)
            ∙ sym (ap (λ b. b && nat_lt m s.next && not (has_task s.waiting m 0)) (ap is_say e ∙ none))

        none_waits : (has_task s.waiting m 0) ≡ false
        none_waits = ap (λ ts. has_task ts m 0) nothing_waits

        -- where it stands before the group, it has no task in it
        no_task : m < s.next → has_task tasks m 0 ≡ false
        no_task l = elim (by_test (has_task tasks m 0)) [
          | inl e ↦
              let found = one_passes (is_task m 0) (IsWaitingTask s.setup (s.group + 1) (s.next + len + 1)) tasks next_keeps.waiting e in
              let group : group_of s.setup m ≡ s.group + 1 = ap (group_of s.setup) (sym (task_names m 0 found.0 found.1).0) ∙ found.2.group_is in
              let h : group_of s.setup m ≤ s.group = keeps.ends.before m l in
              absurd (omega arith)
          | inr e ↦ e
        ]

        known : (b c d : Bool) → is_say (slice_get s.setup.steps m) ≡ true → nat_lt m (s.next + len + 1) ≡ b → has_task tasks m 0 ≡ c
            → nat_lt m s.next ≡ d → (b && not c) ≡ (d && true) → issued_in next_state m ≡ issued_in s m
        known b c d say e f g same =
            ap (λ x. x && nat_lt m (s.next + len + 1) && not (has_task tasks m 0)) say ∙ ap (λ x. true && x && not (has_task tasks m 0)) e
            ∙ ap (λ x. true && b && not x) f
            ∙ same
            ∙ sym (ap (λ x. x && nat_lt m s.next && not (has_task s.waiting m 0)) say
            ∙ ap (λ x. true && x && not (has_task s.waiting m 0)) g ∙ ap (λ x. true && d && not x) none_waits)

        by_step : (o : Option ScriptStep) → slice_get s.setup.steps m ≡ o → issued_in next_state m ≡ issued_in s m
        by_step None e = silent None e refl
        by_step (Some (MoveStep p target)) e = silent (Some (MoveStep p target)) e refl
        by_step (Some (EvacuateStep router)) e = silent (Some (EvacuateStep router)) e refl
        by_step (Some SettleStep) e = silent (Some SettleStep) e refl
        by_step (Some (SayStep p bytes)) e = elim (compare m s.next) [
          | inl l ↦ known true false true (ap is_say e) (grind (arith, nat_tests)) (no_task l) (grind (arith, nat_tests)) refl
          | inr rest ↦
              let le : s.next ≤ m = elim rest [ inl same ↦ omega arith | inr more ↦ omega arith ] in
              elim (compare m (s.next + len)) [
                | inl l ↦ known true true false (ap is_say e) (grind (arith, nat_tests))
                    (has_say_task s.setup s.seats m p bytes s.next len e le l) (grind (arith, nat_tests)) refl
                | inr (inl same) ↦ absurd (let f : Some (SayStep p bytes) ≡ Some SettleStep = sym e ∙ ap (slice_get s.setup.steps) same ∙ settle in cc)
                | inr (inr more) ↦ known false (has_task tasks m 0) false (ap is_say e) (grind (arith, nat_tests)) refl (grind (arith, nat_tests)) refl
              ]
        ]

    pub next_row : BeginsGroup s.setup (part_of_state s) None [] (part_of_state next_state)
    next_row = record {
      further = more_groups;
      takes = refl;
      sends = refl;
      effect = λ i. record {
        group = s.group + 1;
        issued = λ m. issued_as_before m i;
        given = λ k. begun_given s.setup (s.group + 1) s.next len s.slots s.seats ready k i;
        source = λ k. begun_source s.setup (s.group + 1) s.next len s.slots s.seats ready k i;
        outcome = λ k. begun_outcome s.setup (s.group + 1) s.next len s.slots s.seats ready k i;
      };
    }

    -- what was given to the grafts of the group is what its evacuate steps give
    pub next_emptied : GivesEmptiedSessions s.setup (part_of_state s) (part_of_state next_state)
    next_emptied g router known_g step group =
        begun_given s.setup (s.group + 1) s.next len s.slots s.seats ready g.graft
        ∙ ap (λ o. gift_or (gift_in_group s.setup (s.group + 1) placed o) (given_in s.setup s.slots g.graft)) known_g
        ∙ ap (λ b. gift_or (if b then gift_by s.setup placed (slice_get s.setup.steps g.step) g.peering else NoGift) (given_in s.setup s.slots g.graft))
        of_group
        ∙ ap (λ o. gift_or (gift_by s.setup placed o g.peering) (given_in s.setup s.slots g.graft)) step
        ∙ ap (gift_or (gift_to s.setup placed router g.peering)) not_given
        ∙ or_none (gift_to s.setup placed router g.peering)
      where
        placed : ℕ → ℕ
        placed = placement s.setup (part_of_state s)

        of_group : (group_of s.setup g.step == s.group + 1) ≡ true
        of_group = grind (arith, nat_tests)

        or_none : (gift : GiftOf) → gift_or gift NoGift ≡ gift
        or_none NoGift = refl
        or_none (To target) = refl
        or_none (StaysAt r) = refl

        at_i : (i : ℕ) × (g.graft ≡ i + 1) × (slice_get (grafts_in s.setup) i ≡ Some g)
        at_i = index_of_graft s.setup g.graft g known_g

        unmade : (slot : Slot) → is_first (Some (EvacuateStep router)) slot ≡ true → given_of (Some (EvacuateStep router)) (Some slot) ≡ NoGift
        unmade Unmade e = refl
        unmade (Stays k p r) e = absurd cc
        unmade (Made entry) e = absurd cc

        not_given : given_in s.setup s.slots g.graft ≡ NoGift
        not_given =
            let there = slot_there s.setup s.group s.waiting s.slots keeps.slots at_i.0 g at_i.2 in
            own_given s.setup s.slots at_i.0 g at_i.2 there.0 there.1 ∙ ap (λ o. given_of o (Some there.0)) step
            ∙ unmade there.0 (ap (λ o. is_first o there.0) (sym step) ∙ there.2.later (let e : group_of s.setup g.step ≡ s.group + 1 = group in omega arith))
