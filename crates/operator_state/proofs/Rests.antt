-- What is left to do, as the state has it.
use Rattle.std.proofs.Common.{◌≡◌, ℕ, zero, suc, ◌+◌, ◌<◌, ◌≤◌, Bool, true, false, ◌||◌, List, [], ◌∷◌}
use Rattle.std.proofs.Common.{Option, Some, None, refl, sym, ap, ◌∙◌, subst, inl, inr, arith}
use Rattle.std.specs.Prelude.{◌≢◌, ◌⊎◌, ◌↔◌, not, slice_get, if◌then◌else◌}
use Rattle.std.specs.Option.{option_map, option_or}
use Rattle.std.specs.List.{list_any, AllByRecursion}
use Rattle.std.proofs.lemmas.Option.{same_Some}
use Rattle.graft_edge.specs.declared.ids.RouterId.{RouterId}
use Rattle.graft_steps.specs.declared.log.GraftEntry.{GraftEntry}
use Rattle.graft_model.specs.Setups.{ScriptStep, SayStep, MoveStep, EvacuateStep, SettleStep, ScriptGraft, group_of, grafts_in, graft_at}
use Rattle.graft_model.specs.Parts.{OperatorPart}
use Rattle.graft_model.specs.Placements.{target_in}
use Rattle.graft_model.specs.OperatorRows.{OperatorSent, OrdersSay, OrdersGraft}
use Rattle.graft_model.proofs.Numbers.{index_of_graft, number_is}
use Rattle.settled_check.specs.Firsts.{IsLowestOf}
use Rattle.settled_check.specs.Left.{HasUnissued, IsOpen}
use Rattle.operator_state.specs.declared.grafts.Slot.{Slot}
use Rattle.operator_state.specs.declared.grafts.Slot.TheVariants.{Unmade, Stays, Made}
use Rattle.operator_state.specs.declared.groups.Task.{Task}
use Rattle.operator_state.specs.Grafts.{is_waiting, is_open, outcome_at}
use Rattle.operator_state.specs.Slots.{slot_at, source_at, source_in, open_graft, first_open}
use Rattle.operator_state.specs.Tasks.{unissued, is_task, has_task}
use Rattle.operator_state.specs.States.{State, is_say, part_of_state}
use Rattle.operator_state.specs.Keeps.{IsGraftTask, IsWaitingTask, IsSlot, slot_waits, is_first, NoneIsOpen, OperatorInvariant}
use Rattle.operator_state.specs.Issues.{IsGraftHeldUp}
use Rattle.operator_state.specs.Holds.{NothingToOrder}
use Rattle.operator_state.proofs.Lists.{by_test, compare, there_is, one_passes}
use Rattle.operator_state.proofs.Tasks.{any_unissued, none_unissued}
use Rattle.operator_state.proofs.TaskOrder.{task_names, is_that_task}
use Rattle.operator_state.proofs.SlotLaws.{graft_there, target_at, number, own_slot, own_source, own_outcome, own_target, IsOwned}
use Rattle.operator_state.proofs.SlotLaws.{owner, slot_there, same_entry, open_is_not_waiting, open_has_no_outcome}
use Rattle.operator_state.proofs.SlotLaws.{waiting_has_no_outcome, ended_is_not_open, waiting_is_not_open, ordered_has_ended}
use Rattle.operator_state.proofs.Scripts.{groups_rise}
use Rattle.operator_state.proofs.Issues.{unissued_waits, waits_unissued, held_has_graft}

-- ---- the first slot that is open

-- a slot whose graft is open
record IsOpenSlot (slot : Slot) (k : ℕ) : Type 0 where
  entry : GraftEntry
  is : slot ≡ Made entry
  graft : entry.graft ≡ k
  open_is : is_open entry.stage ≡ true

open_slot : (slot : Slot) (k : ℕ) → open_graft slot ≡ Some k → IsOpenSlot slot k
open_slot Unmade k e = absurd cc
open_slot (Stays j p router) k e = absurd cc
open_slot (Made entry) k e = by_open (is_open entry.stage) refl e where
  by_open : (b : Bool) → is_open entry.stage ≡ b → (if b then Some entry.graft else None) ≡ Some k → IsOpenSlot (Made entry) k
  by_open true is f = record { entry = entry; is = refl; graft = same_Some entry.graft k f; open_is = is }
  by_open false is f = absurd cc

not_open : (slot : Slot) → open_graft slot ≡ None → (entry : GraftEntry) → slot ≡ Made entry → is_open entry.stage ≡ false
not_open slot e entry is = by_open (is_open entry.stage) refl (sym (ap open_graft is) ∙ e) where
  by_open : (b : Bool) → is_open entry.stage ≡ b → (if b then Some entry.graft else None) ≡ None → is_open entry.stage ≡ false
  by_open true is f = absurd cc
  by_open false is f = is

pub record IsFirstOpen (slots : List Slot) (k : ℕ) : Type 0 where
  pub index : ℕ
  pub entry : GraftEntry
  pub there : slice_get slots index ≡ Some (Made entry)
  pub graft : entry.graft ≡ k
  pub open_is : is_open entry.stage ≡ true
  pub none_before : (i : ℕ) (one : GraftEntry) → i < index → slice_get slots i ≡ Some (Made one) → is_open one.stage ≡ false

pub none_open : (slots : List Slot) → first_open slots ≡ None → (i : ℕ) (entry : GraftEntry) → slice_get slots i ≡ Some (Made entry)
    → is_open entry.stage ≡ false
none_open [] e i entry there = absurd cc
none_open (slot ∷ slots) e i entry there = by_first (open_graft slot) refl e (λ f j at. none_open slots f j entry at) i there where
  by_first : (o : Option ℕ) → open_graft slot ≡ o → option_or o (first_open slots) ≡ None
      → (first_open slots ≡ None → (j : ℕ) → slice_get slots j ≡ Some (Made entry) → is_open entry.stage ≡ false)
      → (j : ℕ) → slice_get (slot ∷ slots) j ≡ Some (Made entry) → is_open entry.stage ≡ false
  by_first (Some k) is f rest j at = absurd cc
  by_first None is f rest zero at = not_open slot is entry (same_Some slot (Made entry) at)
  by_first None is f rest (suc j) at = rest f j at

pub first_is_open : (slots : List Slot) (k : ℕ) → first_open slots ≡ Some k → IsFirstOpen slots k
first_is_open [] k e = absurd cc
first_is_open (slot ∷ slots) k e = by_first (open_graft slot) refl e (λ f. first_is_open slots k f) where
  later : open_graft slot ≡ None → (r : IsFirstOpen slots k) → (i : ℕ) (one : GraftEntry) → i < suc r.index
      → slice_get (slot ∷ slots) i ≡ Some (Made one) → is_open one.stage ≡ false
  later is r zero one l at = not_open slot is one (same_Some slot (Made one) at)
  later is r (suc i) one l at = r.none_before i one (omega (arith, l)) at

  by_first : (o : Option ℕ) → open_graft slot ≡ o → option_or o (first_open slots) ≡ Some k → (first_open slots ≡ Some k → IsFirstOpen slots k)
      → IsFirstOpen (slot ∷ slots) k
  by_first (Some j) is f rest =
      let o : IsOpenSlot slot j = open_slot slot j is in
      record {
        index = 0;
        entry = o.entry;
        there = ap Some o.is;
        graft = o.graft ∙ same_Some j k f;
        open_is = o.open_is;
        none_before = λ i one l at. absurd (omega (arith, l));
      }
  by_first None is f rest =
      let r : IsFirstOpen slots k = rest f in
      record { index = suc r.index; entry = r.entry; there = r.there; graft = r.graft; open_is = r.open_is; none_before = later is r }

-- ---- tasks

-- what holds exactly where some task waits
pub some_or_none : (tasks : List Task) (some : Bool) (P : Type 0) → some ≡ list_any (λ task. not task.issued) tasks → (P → unissued tasks ≢ [])
    → (unissued tasks ≢ [] → P) → (some ≡ true) ↔ P
some_or_none tasks some P is has more = (λ e. more (any_unissued tasks (sym is ∙ e)), λ p. by_value some refl p)
  where
    by_value : (b : Bool) → some ≡ b → P → b ≡ true
    by_value true e p = refl
    by_value false e p = absurd (has p (none_unissued tasks (sym is ∙ e)))

-- ---- sources

no_source : (entry : GraftEntry) → source_at entry ≡ None → entry.source ≡ None
no_source entry e = by_source entry.source refl e where
  by_source : (o : Option RouterId) → entry.source ≡ o → option_map (λ r. r.0) o ≡ None → entry.source ≡ None
  by_source None is f = is
  by_source (Some r) is f = absurd cc

module _ (s : State) (keeps : OperatorInvariant s) where
  -- a step of the group at work stands before the next group
  pub in_group_before : (n : ℕ) → group_of s.setup n ≡ s.group → n < s.next
  in_group_before n e = elim (compare n s.next) [
    | inl l ↦ l
    | inr rest ↦
        let le : s.next ≤ n = elim rest [ inl same ↦ omega (arith, same) | inr more ↦ omega (arith, more) ] in
        let rise = groups_rise s.setup s.next n le in
        let begins = keeps.ends.begins in
        absurd (omega (arith, rise, begins, e))
  ]

  -- ---- the slot of a graft

  -- the slot of a graft that is made has its entry
  record HasEntry (g : ScriptGraft) : Type 0 where
    index : ℕ
    at_index : slice_get (grafts_in s.setup) index ≡ Some g
    entry : GraftEntry
    there : slice_get s.slots index ≡ Some (Made entry)
    is : IsSlot s.setup s.group s.waiting g (Made entry)

  has_entry : (g : ScriptGraft) → graft_at s.setup g.graft ≡ Some g → target_in s.setup (part_of_state s) g ≢ None → HasEntry g
  has_entry g known made = by_slot found.0 found.1 found.2 where
    index : (i : ℕ) × (g.graft ≡ i + 1) × (slice_get (grafts_in s.setup) i ≡ Some g)
    index = index_of_graft s.setup g.graft g known

    found : (slot : Slot) × (slice_get s.slots index.0 ≡ Some slot) × IsSlot s.setup s.group s.waiting g slot
    found = slot_there s.setup s.group s.waiting s.slots keeps.slots index.0 g index.2

    no_target : (slot : Slot) → slice_get s.slots index.0 ≡ Some slot → IsSlot s.setup s.group s.waiting g slot → target_at slot ≡ None → HasEntry g
    no_target slot at is none = absurd (made (own_target s.setup s.slots index.0 g index.2 slot at is.fits ∙ none))

    by_slot : (slot : Slot) → slice_get s.slots index.0 ≡ Some slot → IsSlot s.setup s.group s.waiting g slot → HasEntry g
    by_slot Unmade at is = no_target Unmade at is refl
    by_slot (Stays k p router) at is = no_target (Stays k p router) at is refl
    by_slot (Made entry) at is = record { index = index.0; at_index = index.2; entry = entry; there = at; is = is }

  -- the graft of an entry is made
  pub entry_made : (i : ℕ) (g : ScriptGraft) (entry : GraftEntry) → slice_get (grafts_in s.setup) i ≡ Some g → slice_get s.slots i ≡ Some (Made entry)
      → IsSlot s.setup s.group s.waiting g (Made entry) → target_in s.setup (part_of_state s) g ≢ None
  entry_made i g entry at there is none = let e : Some entry.target.0 ≡ None = sym (own_target s.setup s.slots i g at (Made entry) there is.fits) ∙ none in cc

  -- an entry that wasn't ordered waits
  unordered_waits : (g : ScriptGraft) → (h : HasEntry g) → source_in s.slots g.graft ≡ None → is_waiting h.entry.stage ≡ true
  unordered_waits g h none =
      (h.is.fits.made h.entry refl).source.0 (no_source h.entry (sym (own_source s.setup s.slots h.index g h.at_index h.entry h.there) ∙ none))

  -- a graft of the group at work that wasn't ordered has a task
  has_its_task : (g : ScriptGraft) → group_of s.setup g.step ≡ s.group → (h : HasEntry g) → source_in s.slots g.graft ≡ None
      → has_task s.waiting g.step g.graft ≡ true
  has_its_task g group h none = sym (h.is.now group) ∙ unordered_waits g h none

  -- ---- what isn't issued

  no_tasks : (n k : ℕ) → has_task s.waiting n k ≡ true → s.waiting ≢ []
  no_tasks n k w none = let e : false ≡ true = sym (ap (λ tasks. has_task tasks n k) none) ∙ w in cc

  pub some_unissued : HasUnissued s.setup (part_of_state s) → s.waiting ≢ []
  some_unissued (inl (n, u)) = no_tasks n 0 (unissued_waits s n (ap is_say u.is) (in_group_before n u.group) u.unissued)
  some_unissued (inr (g, (u, unordered))) = no_tasks g.step g.graft (has_its_task g u.group (has_entry g u.known u.made) unordered)

  -- a task that waits
  module _ (task : Task) (w : IsWaitingTask s.setup s.group s.next task) (has : has_task s.waiting task.step task.graft ≡ true) where
    -- its graft, if it has one, is made and wasn't ordered
    graft_waits : IsGraftTask s.setup task → HasUnissued s.setup (part_of_state s)
    graft_waits of_step = by_graft (graft_at s.setup task.graft) refl of_step where
      by_slot : (g : ScriptGraft) (i : ℕ) → graft_at s.setup g.graft ≡ Some g → group_of s.setup g.step ≡ s.group
          → slice_get (grafts_in s.setup) i ≡ Some g → (slot : Slot) → slice_get s.slots i ≡ Some slot
          → IsSlot s.setup s.group s.waiting g slot → slot_waits slot ≡ true → HasUnissued s.setup (part_of_state s)
      by_slot g i known group at Unmade there is e = absurd cc
      by_slot g i known group at (Stays k p router) there is e = absurd cc
      by_slot g i known group at (Made entry) there is e =
          let none : entry.source ≡ None = (is.fits.made entry refl).source.1 e in (
          inr (
            g,
            (
              record {
                known = known;
                group = group;
                made = entry_made i g entry at there is;
                unended = own_outcome s.setup s.slots i g at entry there ∙ waiting_has_no_outcome entry.stage e;
              },
              own_source s.setup s.slots i g at entry there ∙ ap (option_map (λ (r : RouterId). r.0)) none,
            ),
          ))

      by_graft : (o : Option ScriptGraft) → graft_at s.setup task.graft ≡ o → option_map (λ (g : ScriptGraft). g.step) o ≡ Some task.step
          → HasUnissued s.setup (part_of_state s)
      by_graft None at e = absurd cc
      by_graft (Some g) at e =
          let step : g.step ≡ task.step = same_Some g.step task.step e in
          let graft : g.graft ≡ task.graft = number_is s.setup task.graft g at in
          let known : graft_at s.setup g.graft ≡ Some g = ap (graft_at s.setup) graft ∙ at in
          let group : group_of s.setup g.step ≡ s.group = ap (group_of s.setup) step ∙ w.group_is in
          let index = index_of_graft s.setup g.graft g known in
          let found = slot_there s.setup s.group s.waiting s.slots keeps.slots index.0 g index.2 in
          by_slot g index.0 known group index.2 found.0 found.1 found.2
          (found.2.now group ∙ ap (λ n. has_task s.waiting n g.graft) step ∙ ap (has_task s.waiting task.step) graft ∙ has)

    task_unissued : HasUnissued s.setup (part_of_state s)
    task_unissued =
        let found = there_is s.setup.steps task.step (let l = w.before in let m = keeps.ends.within in omega (arith, l, m)) in
        by_step found.0 found.1
      where
        by_step : (step : ScriptStep) → slice_get s.setup.steps task.step ≡ Some step → HasUnissued s.setup (part_of_state s)
        by_step (SayStep p bytes) is = inl (
          task.step,
          record {
            peering = p;
            bytes = bytes;
            is = is;
            group = w.group_is;
            unissued = waits_unissued s task.step (sym (ap (has_task s.waiting task.step) (w.says p bytes is)) ∙ has);
          },
        )
        by_step (MoveStep p target) is = graft_waits (w.moves p target is)
        by_step (EvacuateStep router) is = graft_waits (w.evacuates router is)
        by_step SettleStep is = absurd (w.issuable is)

  pub unissued_there : s.waiting ≢ [] → HasUnissued s.setup (part_of_state s)
  unissued_there ne = by_list s.waiting refl
    where
      by_list : (tasks : List Task) → s.waiting ≡ tasks → HasUnissued s.setup (part_of_state s)
      by_list [] e = absurd (ne e)
      by_list (task ∷ tasks) e =
          let all : AllByRecursion (IsWaitingTask s.setup s.group s.next) (task ∷ tasks) =
          subst (λ xs. AllByRecursion (IsWaitingTask s.setup s.group s.next) xs) e keeps.waiting in
          let here : is_task task.step task.graft task ≡ true = is_that_task task.step task.graft task refl refl in
          task_unissued task all.0 (ap (λ xs. has_task xs task.step task.graft) e ∙ ap (λ b. b || has_task tasks task.step task.graft) here)

  -- ---- a graft that is open

  -- an open entry is that of a graft of the group at work
  pub open_there : (i : ℕ) (entry : GraftEntry) → slice_get s.slots i ≡ Some (Made entry) → is_open entry.stage ≡ true
      → IsOpen s.setup (part_of_state s) (i + 1)
  open_there i entry there open_is = (
    g,
    its_number,
    record {
      known = graft_there s.setup i g own.index;
      group = by_group (compare (group_of s.setup g.step) s.group);
      made = entry_made i g entry own.index there own.is;
      unended = own_outcome s.setup s.slots i g own.index entry there ∙ open_has_no_outcome entry.stage open_is;
    },
    λ none. (
        let unsourced : entry.source ≡ None =
        no_source entry (sym (own_source s.setup s.slots i g own.index entry there) ∙ ap (source_in s.slots) its_number ∙ none) in
        let waits : is_waiting entry.stage ≡ true = (own.is.fits.made entry refl).source.0 unsourced in
        let e : true ≡ false = sym waits ∙ open_is_not_waiting entry.stage open_is in
        cc),
  )
    where
      own : IsOwned s.setup s.group s.waiting i (Made entry)
      own = owner s.setup s.group s.waiting s.slots keeps.slots i (Made entry) there

      g : ScriptGraft
      g = own.graft

      its_number : g.graft ≡ i + 1
      its_number = number s.setup s.slots i g own.index

      no_later : (o : Option ScriptStep) → is_first o (Made entry) ≡ true → is_waiting entry.stage ≡ true
      no_later None e = absurd cc
      no_later (Some (SayStep p bytes)) e = absurd cc
      no_later (Some (MoveStep p target)) e = e
      no_later (Some (EvacuateStep router)) e = absurd cc
      no_later (Some SettleStep) e = absurd cc

      by_group : (group_of s.setup g.step < s.group) ⊎ ((group_of s.setup g.step ≡ s.group) ⊎ (s.group < group_of s.setup g.step))
          → group_of s.setup g.step ≡ s.group
      by_group (inl past) = absurd (own.is.past past entry refl (open_has_no_outcome entry.stage open_is))
      by_group (inr (inl now)) = now
      by_group (inr (inr later)) =
          let waits : is_waiting entry.stage ≡ true = no_later (slice_get s.setup.steps g.step) (own.is.later later) in
          let e : true ≡ false = sym waits ∙ open_is_not_waiting entry.stage open_is in
          absurd cc

  -- the entry of an open graft is open
  pub open_entry : (k : ℕ) → IsOpen s.setup (part_of_state s) k
      → (i : ℕ) × (entry : GraftEntry) × (slice_get s.slots i ≡ Some (Made entry)) × (is_open entry.stage ≡ true) × (i + 1 ≡ k)
  open_entry k (g, same, u, ordered) =
      let h : HasEntry g = has_entry g u.known u.made in
      let none : outcome_at h.entry.stage ≡ None = sym (own_outcome s.setup s.slots h.index g h.at_index h.entry h.there) ∙ u.unended in
      let its_number : h.index + 1 ≡ k = sym (number s.setup s.slots h.index g h.at_index) ∙ same in
      (h.index, h.entry, h.there, by_stage h none (by_test (is_open h.entry.stage)) (by_test (is_waiting h.entry.stage)), its_number)
    where
      by_stage : (h : HasEntry g) → outcome_at h.entry.stage ≡ None → (is_open h.entry.stage ≡ true) ⊎ (is_open h.entry.stage ≡ false)
          → (is_waiting h.entry.stage ≡ true) ⊎ (is_waiting h.entry.stage ≡ false) → is_open h.entry.stage ≡ true
      by_stage h none (inl f) waits = f
      by_stage h none (inr f) (inr over) = absurd (ordered_has_ended h.entry.stage over f none)
      by_stage h none (inr f) (inl waits) =
          let unsourced : h.entry.source ≡ None = (h.is.fits.made h.entry refl).source.1 waits in
          absurd (ordered (sym (ap (source_in s.slots) same) ∙ own_source s.setup s.slots h.index g h.at_index h.entry h.there
          ∙ ap (option_map (λ (r : RouterId). r.0)) unsourced))

  pub lowest_open : IsLowestOf (IsOpen s.setup (part_of_state s)) (first_open s.slots)
  lowest_open = by_found (first_open s.slots) refl
    where
      by_found : (o : Option ℕ) → first_open s.slots ≡ o → IsLowestOf (IsOpen s.setup (part_of_state s)) o
      by_found None e = λ k o. (
          let r = open_entry k o in
          let f : true ≡ false = sym r.3 ∙ none_open s.slots e r.0 r.1 r.2 in
          cc)
      by_found (Some k) e =
          let r : IsFirstOpen s.slots k = first_is_open s.slots k e in
          let own = owner s.setup s.group s.waiting s.slots keeps.slots r.index (Made r.entry) r.there in
          let at_number : r.index + 1 ≡ k = sym (number s.setup s.slots r.index own.graft own.index) ∙ sym (own.is.fits.made r.entry refl).graft ∙ r.graft in (
            subst (IsOpen s.setup (part_of_state s)) at_number (open_there r.index r.entry r.there r.open_is),
            λ j o. (
                let q = open_entry j o in
                elim (compare q.0 r.index) [
                  | inl l ↦ let f : true ≡ false = sym q.3 ∙ r.none_before q.0 q.1 l q.2 in absurd cc
                  | inr (inl same) ↦ let j_is = q.4 in omega (arith, same, at_number, j_is)
                  | inr (inr more) ↦ let j_is = q.4 in omega (arith, more, at_number, j_is)
                ]),
          )

  -- ---- what may be ordered

  -- a say that may be ordered waits
  pub say_task : (step named : ℕ) (sent : List OperatorSent) (after : OperatorPart) → OrdersSay s.setup step named (part_of_state s) None sent after
      → has_task s.waiting step 0 ≡ true
  say_task step named sent after row = unissued_waits s step (ap is_say row.is) (in_group_before step row.group) row.unissued

  module _ (step named : ℕ) (sent : List OperatorSent) (after : OperatorPart) (row : OrdersGraft s.setup step named (part_of_state s) None sent after) where
    abbrev g : ScriptGraft
    g = row.graft

    has_own : HasEntry g
    has_own = has_entry g row.known (λ none. let e : Some row.target ≡ None = sym row.is ∙ none in cc)

    abbrev entry : GraftEntry
    entry = has_own.entry

    waits : is_waiting entry.stage ≡ true
    waits = unordered_waits g has_own row.unordered

    of_peering : entry.peering.0 ≡ g.peering
    of_peering = (has_own.is.fits.made entry refl).peering

    -- a graft that may be ordered waits too
    pub graft_task : has_task s.waiting step g.graft ≡ true
    graft_task =
        let group : group_of s.setup g.step ≡ s.group = ap (group_of s.setup) row.by_step ∙ row.group in
        ap (λ n. has_task s.waiting n g.graft) (sym row.by_step) ∙ has_its_task g group has_own row.unordered

    pub graft_slot : (one : GraftEntry) × (slot_at s.slots g.graft ≡ Some (Made one)) × (one.peering.0 ≡ g.peering)
    graft_slot = (entry, own_slot s.setup s.slots has_own.index g has_own.at_index ∙ has_own.there, of_peering)

    -- no graft of its peering is open: those before it have ended, and those behind it wait
    pub none_is_open : NoneIsOpen s.slots g.peering
    none_is_open i one there same = by_index (compare i has_own.index) where
      own : IsOwned s.setup s.group s.waiting i (Made one)
      own = owner s.setup s.group s.waiting s.slots keeps.slots i (Made one) there

      by_index : (i < has_own.index) ⊎ ((i ≡ has_own.index) ⊎ (has_own.index < i)) → is_open one.stage ≡ false
      by_index (inl l) =
          let before : own.graft.graft < g.graft =
          omega (arith, l, number s.setup s.slots i own.graft own.index, number s.setup s.slots has_own.index g has_own.at_index) in
          let peering : own.graft.peering ≡ g.peering = sym (own.is.fits.made one refl).peering ∙ same in
          ended_is_not_open one.stage (λ none.
          row.earlier own.graft (graft_there s.setup i own.graft own.index) peering before
          (entry_made i own.graft one own.index there own.is) (own_outcome s.setup s.slots i own.graft own.index one there ∙ none))
      by_index (inr (inl here)) =
          let same_one : one ≡ entry = same_entry one entry (sym there ∙ (ap (slice_get s.slots) here ∙ has_own.there)) in
          waiting_is_not_open one.stage (ap (λ (x : GraftEntry). is_waiting x.stage) same_one ∙ waits)
      by_index (inr (inr l)) = elim (by_test (is_open one.stage)) [
        | inr f ↦ f
        | inl f ↦ absurd (keeps.slots.in_turn has_own.index i entry one l has_own.there there
            (of_peering ∙ sym same) (open_is_not_waiting one.stage f) (waiting_has_no_outcome entry.stage waits))
      ]

  -- ---- nothing may be ordered

  module _ (held : AllByRecursion (IsGraftHeldUp s) s.waiting) where
    no_say : (step named : ℕ) (sent : List OperatorSent) (after : OperatorPart) → OrdersSay s.setup step named (part_of_state s) None sent after → ⊥
    no_say step named sent after row =
        let found = one_passes (is_task step 0) (IsGraftHeldUp s) s.waiting held (say_task step named sent after row) in
        held_has_graft s found.0 found.2 (task_names step 0 found.0 found.1).1

    no_graft : (step named : ℕ) (sent : List OperatorSent) (after : OperatorPart) → OrdersGraft s.setup step named (part_of_state s) None sent after → ⊥
    no_graft step named sent after row =
        let found = one_passes (is_task step row.graft.graft) (IsGraftHeldUp s) s.waiting held (graft_task step named sent after row) in
        let h : IsGraftHeldUp s found.0 = found.2 in
        let graft : found.0.graft ≡ row.graft.graft = (task_names step row.graft.graft found.0 found.1).1 in
        let slot = graft_slot step named sent after row in
        let same : h.entry ≡ slot.0 = same_entry h.entry slot.0 (sym h.is ∙ (ap (slot_at s.slots) graft ∙ slot.1)) in
        let of_peering : row.graft.peering ≡ h.entry.peering.0 = sym (ap (λ (x : GraftEntry). x.peering.0) same ∙ slot.2) in
        let still : h.seat.moving ≡ false = (keeps.seats.each h.entry.peering.0 h.seat h.seated).still.1
        (subst (NoneIsOpen s.slots) of_peering (none_is_open step named sent after row)) in
        let e : true ≡ false = sym h.moving ∙ still in
        cc

    pub nothing_to_order : NothingToOrder s.setup (part_of_state s)
    nothing_to_order step named sent after (inl say) = no_say step named sent after say
    nothing_to_order step named sent after (inr graft) = no_graft step named sent after graft
