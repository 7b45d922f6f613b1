-- The tasks with which a group begins: their order, what each of them is for, and of which grafts there is one.
use Rattle.std.proofs.Common.{◌≡◌, ℕ, ◌+◌, ◌<◌, ◌≤◌, cond, Bool, true, false, ◌||◌, List, [], ◌∷◌, length}
use Rattle.std.proofs.Common.{Option, Some, None, is_some, refl, sym, ap, ◌∙◌, subst, inl, inr, arith}
use Rattle.std.specs.Prelude.{slice_get}
use Rattle.std.specs.List.{AllByRecursion}
use Rattle.std.specs.Option.{option_map}
use Rattle.std.proofs.lemmas.Bool.{cases_eq, ne_eqb, eq-eqb}
use Rattle.graft_model.specs.Setups.{Setup, ScriptStep, SayStep, MoveStep, EvacuateStep, SettleStep}
use Rattle.graft_model.specs.Setups.{ScriptGraft, peerings_in, group_of, grafts_before, graft_at}
use Rattle.graft_model.proofs.Numbers.{graft_of_step}
use Rattle.operator_state.specs.declared.evacuate.Gift.{Gift}
use Rattle.operator_state.specs.declared.grafts.Seat.{Seat}
use Rattle.operator_state.specs.declared.groups.Task.{Task}
use Rattle.operator_state.specs.Tasks.{task_of, is_task, has_task, given_tasks}
use Rattle.operator_state.specs.Keeps.{Precedes, Rises, IsWaitingTask, IsGraftTask}
use Rattle.operator_state.proofs.Lists.{none_passes, all_map}
use Rattle.operator_state.proofs.TaskOrder.{is_that_task, is_other_step, is_other_graft}
use Rattle.operator_state.proofs.GiftLists.{Sorted, all_range, any_range, sorted_range}
use Rattle.operator_state.proofs.Gifts.{IsEarlier, IsGiftOf, gift_numbered, gifts_are, gifts_of_step_rise}
use Rattle.operator_state.proofs.Ready.{gifts_of, gifts_at, tasks_of, tasks_at, group_tasks}

-- ---- the tasks of an evacuate step

-- whether what is given is a graft that is made
abbrev pub makes : Option Gift → Bool
makes None = false
makes (Some gift) = is_some gift.target

module _ (m : ℕ) where
  given_tasks_all : (P : Task → Type 0) (Q : Gift → Type 0) → ((gift : Gift) → Q gift → P (task_of m gift.graft)) → (gifts : List Gift)
      → AllByRecursion Q gifts → AllByRecursion P (given_tasks m gifts)
  given_tasks_all P Q each [] all = tt
  given_tasks_all P Q each (gift ∷ gifts) all =
      let rest = given_tasks_all P Q each gifts all.1 in
      elim (is_some gift.target) as (λ b. AllByRecursion P (cond b (task_of m gift.graft ∷ given_tasks m gifts) (given_tasks m gifts))) [
        | true ↦ (each gift all.0, rest)
        | false ↦ rest
      ]

  given_tasks_rise : (gifts : List Gift) → Sorted IsEarlier gifts → Sorted Precedes (given_tasks m gifts)
  given_tasks_rise [] sorted = tt
  given_tasks_rise (gift ∷ gifts) sorted =
      let rest = given_tasks_rise gifts sorted.1 in
      let after = given_tasks_all (Precedes (task_of m gift.graft)) (IsEarlier gift)
      (λ other later. record { step = omega arith; graft = λ same. later }) gifts sorted.0 in
      elim (is_some gift.target) as (λ b. Sorted Precedes (cond b (task_of m gift.graft ∷ given_tasks m gifts) (given_tasks m gifts))) [
        | true ↦ (after, rest)
        | false ↦ rest
      ]

  has_given : (k : ℕ) (gifts : List Gift) → Sorted IsEarlier gifts → has_task (given_tasks m gifts) m k ≡ makes (gift_numbered k gifts)
  has_given k [] sorted = refl
  has_given k (gift ∷ gifts) sorted = elim (cases_eq gift.graft k) [
    | inl is ↦
        let none : has_task (given_tasks m gifts) m k ≡ false = none_passes (is_task m k) (given_tasks m gifts)
        (given_tasks_all (λ task. is_task m k task ≡ false) (IsEarlier gift)
        (λ other later. is_other_graft m k (task_of m other.graft) (omega (arith, is, later))) gifts sorted.0) in
        let own : is_task m k (task_of m gift.graft) ≡ true = is_that_task m k (task_of m gift.graft) refl is in
        (elim (is_some gift.target) as (λ b. has_task (cond b (task_of m gift.graft ∷ given_tasks m gifts) (given_tasks m gifts)) m k ≡ b) [
          | true ↦ ap (λ (b : Bool). b || has_task (given_tasks m gifts) m k) own
          | false ↦ none
        ]) ∙ ap (λ (b : Bool). makes (cond b (Some gift) (gift_numbered k gifts))) (sym (eq-eqb gift.graft k is))
    | inr other ↦
        let not_own : is_task m k (task_of m gift.graft) ≡ false = is_other_graft m k (task_of m gift.graft) other in
        (elim (is_some gift.target)
        as (λ b. has_task (cond b (task_of m gift.graft ∷ given_tasks m gifts) (given_tasks m gifts)) m k ≡ has_task (given_tasks m gifts) m k) [
          | true ↦ ap (λ (b : Bool). b || has_task (given_tasks m gifts) m k) not_own
          | false ↦ refl
        ]) ∙ (has_given k gifts sorted.1 ∙ ap (λ (b : Bool). makes (cond b (Some gift) (gift_numbered k gifts))) (sym (ne_eqb gift.graft k other)))
  ]

-- ---- the tasks of a laboratory's steps

rises_by_order : (tasks : List Task) → Sorted Precedes tasks → Rises tasks
rises_by_order [] sorted = tt
rises_by_order (task ∷ tasks) sorted = (sorted.0, rises_by_order tasks sorted.1)

any_gift : (gifts : List Gift) → AllByRecursion (λ (gift : Gift). Unit {0}) gifts
any_gift [] = tt
any_gift (gift ∷ gifts) = (tt, any_gift gifts)

module _ (setup : Setup) (seats : List Seat) where
  tasks_of_step : (m number : ℕ) (o : Option ScriptStep) → AllByRecursion (λ task. task.step ≡ m) (tasks_of setup seats m number o)
  tasks_of_step m number None = tt
  tasks_of_step m number (Some (SayStep p bytes)) = (refl, tt)
  tasks_of_step m number (Some (MoveStep p target)) = (refl, tt)
  tasks_of_step m number (Some (EvacuateStep router)) =
      let gifts : List Gift = gifts_of setup seats number (Some (EvacuateStep router)) in
      given_tasks_all m (λ task. task.step ≡ m) (λ gift. Unit {0}) (λ gift any. refl) gifts (any_gift gifts)
  tasks_of_step m number (Some SettleStep) = tt

  tasks_rise : (m number : ℕ) (o : Option ScriptStep) → Sorted Precedes (tasks_of setup seats m number o)
  tasks_rise m number None = tt
  tasks_rise m number (Some (SayStep p bytes)) = (tt, tt)
  tasks_rise m number (Some (MoveStep p target)) = (tt, tt)
  tasks_rise m number (Some (EvacuateStep router)) =
      given_tasks_rise m (gifts_of setup seats number (Some (EvacuateStep router))) (gifts_of_step_rise setup seats number (Some (EvacuateStep router)))
  tasks_rise m number (Some SettleStep) = tt

  pub group_tasks_rise : (from len : ℕ) → Rises (group_tasks setup seats from len)
  group_tasks_rise from len = rises_by_order (group_tasks setup seats from len) (sorted_range (tasks_at setup seats) Precedes (λ m task. task.step ≡ m)
      (λ m. tasks_of_step m (grafts_before setup m + 1) (slice_get setup.steps m)) (λ m. tasks_rise m (grafts_before setup m + 1) (slice_get setup.steps m))
      (λ m n task other less one another. record { step = omega (arith, less, one, another); graft = λ same. absurd (omega (arith, less, one, another, same)) })
      from len)

  -- ---- what tasks are for

  graft_task : (m k p : ℕ) → graft_at setup k ≡ Some (record { graft = k; peering = p; step = m }) → IsGraftTask setup (task_of m k)
  graft_task m k p known = ap (option_map (λ (g : ScriptGraft). g.step)) known

  module _ (group next : ℕ) (all : length seats ≡ peerings_in setup) (m : ℕ) (is : group_of setup m ≡ group) (before : m < next) where
    tasks_wait : AllByRecursion (IsWaitingTask setup group next) (tasks_at setup seats m)
    tasks_wait = by_step (slice_get setup.steps m) refl where
      given_waits : (gift : Gift) → IsGiftOf setup m gift → IsWaitingTask setup group next (task_of m gift.graft)
      given_waits gift of =
          let at : slice_get setup.steps m ≡ Some (EvacuateStep gift.router.0) = of.step in
          record {
            group_is = is;
            before = before;
            says = λ p bytes e. absurd (cc (at, e));
            moves = λ p target e. absurd (cc (at, e));
            evacuates = λ router e. graft_task m gift.graft gift.peering.0 of.graft;
            issuable = λ e. cc (at, e);
          }

      by_step : (o : Option ScriptStep) → slice_get setup.steps m ≡ o
          → AllByRecursion (IsWaitingTask setup group next) (tasks_of setup seats m (grafts_before setup m + 1) o)
      by_step None at = tt
      by_step (Some (SayStep q words)) at = (
        record {
          group_is = is;
          before = before;
          says = λ p bytes e. refl;
          moves = λ p target e. absurd (cc (at, e));
          evacuates = λ router e. absurd (cc (at, e));
          issuable = λ e. cc (at, e);
        },
        tt,
      )
      by_step (Some (MoveStep q to)) at = (
        record {
          group_is = is;
          before = before;
          says = λ p bytes e. absurd (cc (at, e));
          moves = λ p target e. ap (λ (k : ℕ). option_map (λ (g : ScriptGraft). g.step) (graft_at setup k))
              (let n : grafts_before setup m + 1 ≡ grafts_before setup m + 0 + 1 = omega arith in n)
              ∙ ap (option_map (λ (g : ScriptGraft). g.step)) (graft_of_step setup m 0 q (MoveStep q to) at refl);
          evacuates = λ router e. absurd (cc (at, e));
          issuable = λ e. cc (at, e);
        },
        tt,
      )
      by_step (Some (EvacuateStep router)) at =
          given_tasks_all m (IsWaitingTask setup group next) (IsGiftOf setup m) given_waits
          (gifts_of setup seats (grafts_before setup m + 1) (Some (EvacuateStep router)))
          (subst (λ (o : Option ScriptStep). AllByRecursion (IsGiftOf setup m) (gifts_of setup seats (grafts_before setup m + 1) o)) at
          (gifts_are setup seats all m))
      by_step (Some SettleStep) at = tt

  pub group_tasks_wait : (group next from len : ℕ) → length seats ≡ peerings_in setup
      → ((m : ℕ) → from ≤ m → m < from + len → group_of setup m ≡ group) → from + len ≤ next
      → AllByRecursion (IsWaitingTask setup group next) (group_tasks setup seats from len)
  group_tasks_wait group next from len all is ends =
      all_range (tasks_at setup seats) (IsWaitingTask setup group next) from len
      (λ m behind within. tasks_wait group next all m (is m behind within) (omega (arith, within, ends)))

  -- ---- of which grafts there is a task

  has_of_step : (n k from len : ℕ) → from ≤ n → n < from + len → has_task (group_tasks setup seats from len) n k ≡ has_task (tasks_at setup seats n) n k
  has_of_step n k from len behind within = any_range (tasks_at setup seats) (is_task n k) n from len
      (λ m other. none_passes (is_task n k) (tasks_at setup seats m)
      (all_map (λ task. task.step ≡ m) (λ task. is_task n k task ≡ false) (tasks_at setup seats m)
      (λ task is. is_other_step n k task (λ e. other (sym is ∙ e))) (tasks_of_step m (grafts_before setup m + 1) (slice_get setup.steps m)))) behind within

  pub has_move_task : (n k p target from len : ℕ) → slice_get setup.steps n ≡ Some (MoveStep p target) → k ≡ grafts_before setup n + 1 → from ≤ n
      → n < from + len
      → has_task (group_tasks setup seats from len) n k ≡ true
  has_move_task n k p target from len at is behind within =
      has_of_step n k from len behind within
      ∙ (ap (λ (o : Option ScriptStep). has_task (tasks_of setup seats n (grafts_before setup n + 1) o) n k) at
      ∙ ap (λ (b : Bool). b || false) (is_that_task n k (task_of n (grafts_before setup n + 1)) refl (sym is)))

  pub has_gift_task : (n k router from len : ℕ) → slice_get setup.steps n ≡ Some (EvacuateStep router) → from ≤ n → n < from + len
      → has_task (group_tasks setup seats from len) n k ≡ makes (gift_numbered k (gifts_at setup seats n))
  has_gift_task n k router from len at behind within =
      has_of_step n k from len behind within
      ∙ (ap (λ (o : Option ScriptStep). has_task (tasks_of setup seats n (grafts_before setup n + 1) o) n k) at
      ∙ (has_given n k (gifts_of setup seats (grafts_before setup n + 1) (Some (EvacuateStep router)))
      (gifts_of_step_rise setup seats (grafts_before setup n + 1) (Some (EvacuateStep router)))
      ∙ ap (λ (o : Option ScriptStep). makes (gift_numbered k (gifts_of setup seats (grafts_before setup n + 1) o))) (sym at)))

  pub has_say_task : (n p : ℕ) (bytes : List ℕ) (from len : ℕ) → slice_get setup.steps n ≡ Some (SayStep p bytes) → from ≤ n → n < from + len
      → has_task (group_tasks setup seats from len) n 0 ≡ true
  has_say_task n p bytes from len at behind within =
      has_of_step n 0 from len behind within
      ∙ (ap (λ (o : Option ScriptStep). has_task (tasks_of setup seats n (grafts_before setup n + 1) o) n 0) at
      ∙ ap (λ (b : Bool). b || false) (is_that_task n 0 (task_of n 0) refl refl))

  -- ---- none of them was issued

  unissued_of_step : (m number : ℕ) (o : Option ScriptStep) → AllByRecursion (λ task. task.issued ≡ false) (tasks_of setup seats m number o)
  unissued_of_step m number None = tt
  unissued_of_step m number (Some (SayStep p bytes)) = (refl, tt)
  unissued_of_step m number (Some (MoveStep p target)) = (refl, tt)
  unissued_of_step m number (Some (EvacuateStep router)) =
      let gifts : List Gift = gifts_of setup seats number (Some (EvacuateStep router)) in
      given_tasks_all m (λ task. task.issued ≡ false) (λ gift. Unit {0}) (λ gift any. refl) gifts (any_gift gifts)
  unissued_of_step m number (Some SettleStep) = tt

  pub group_tasks_unissued : (from len : ℕ) → AllByRecursion (λ task. task.issued ≡ false) (group_tasks setup seats from len)
  group_tasks_unissued from len =
      all_range (tasks_at setup seats) (λ task. task.issued ≡ false) from len
      (λ m behind within. unissued_of_step m (grafts_before setup m + 1) (slice_get setup.steps m))
