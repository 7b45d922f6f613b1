-- The operator's groups: the first, the next, and when nothing of one is left.
use Rattle.std.proofs.Common.{◌≡◌, ℕ, ◌+◌, true, false, List, [], ◌∷◌, length, map, Option, Some, None, refl, sym, ap, ◌∙◌, subst, arith}
use Rattle.std.specs.Prelude.{is_some}
use Rattle.graft_steps.specs.declared.rest.Pending.TheVariants.{Script as ScriptIsLeft, Graft as GraftIsLeft}
use Rattle.graft_model.specs.First.{first_operator}
use Rattle.graft_model.specs.Setups.{group_of, groups_in}
use Rattle.graft_model.specs.declared.event.OperatorEvent.TheVariants.{Go}
use Rattle.graft_actors.specs.declared.known.Known.{Known}
use Rattle.actor_configs.specs.Scripts.{IsScriptOf, IsWorkable}
use Rattle.operator_state.specs.declared.groups.Group.{Group}
use Rattle.operator_state.specs.declared.groups.Task.{Task}
use Rattle.operator_state.specs.declared.grafts.Slot.{Slot}
use Rattle.operator_state.specs.Evacuate.{give}
use Rattle.operator_state.specs.Grafts.{seat_at}
use Rattle.operator_state.specs.Groups.{AreNumbers, IsGroupFrom}
use Rattle.operator_state.specs.Holds.{IsHeldUp}
use Rattle.operator_state.specs.Keeps.{OperatorInvariant}
use Rattle.operator_state.specs.Slots.{first_open, first_slots}
use Rattle.operator_state.specs.States.{State, part_of_state}
use Rattle.operator_state.proofs.Holds.{group_of_all, last_settle, only_the_end}
use Rattle.operator_state.proofs.Rests.{IsFirstOpen, first_is_open, none_open, open_entry, open_there, some_unissued, unissued_there}
use Rattle.operator_state.proofs.Starts.{first_begun, first_begun_is, first_begun_keeps, first_begun_part}
use Rattle.operator_state.proofs.Starts.{next_begun, next_begun_is, next_begun_keeps, next_begun_row, none_issued}
use Rattle.operator_state.proofs.Steps.{as_many_steps}
use Rattle.operator_state.proofs.Tasks.{all_unissued}
use Rattle.audit_ruling.specs.declared.ruling.Ruling.TheVariants.{Refused, Silent}
use Rattle.audit_operator.specs.Decides.{DecidesOperator, NothingIsLeft}
use Rattle.audit_operator.specs.Opens.{IsSteady}
use Rattle.audit_operator.specs.Parts.{OperatorStands, operator_part, operator_state}
use Rattle.audit_operator.specs.declared.operator.AuditedOperator.{AuditedOperator}
use Rattle.audit_operator.proofs.Keeping.{NoneIssued, refused, silent}

-- ---- the first group

module _ (known : Known) (p : AuditedOperator) (is_known : p.known ≡ known) (script : IsScriptOf known.setup p.script) (workable : IsWorkable p.script)
    (numbers : AreNumbers (length p.script.starts) p.script.steps p.numbers) (seats : p.seats.items ≡ map seat_at p.script.starts)
    (slots : List Slot) (slots_are : slots ≡ first_slots (length p.script.starts) 0 p.script.steps)
    (group : Group) (begins : IsGroupFrom p.script p.numbers p.seats.items 0 group) (no_group : p.group ≡ 0) (next : p.next ≡ group.next)
    (tasks : p.tasks.items ≡ group.tasks.items) (slots_is : p.slots.items ≡ give group.gifts slots) where
  unissued_there_first : NoneIssued group.tasks.items
  unissued_there_first = none_issued known.setup p.script script p.numbers numbers p.seats.items 0 group begins

  whole : operator_state p ≡ first_begun known.setup p.script script workable p.numbers numbers p.seats.items seats slots slots_are group begins
  whole = first_begun_is known.setup p.script script workable p.numbers numbers p.seats.items seats slots slots_are group begins (operator_state p)
      (λ i. record {
        setup = ap (λ (k : Known). k.setup) is_known i;
        group = no_group i;
        next = next i;
        waiting = (tasks ∙ sym (all_unissued group.tasks.items unissued_there_first)) i;
        slots = slots_is i;
        seats = p.seats.items;
      })

  pub first_part_is : operator_part p ≡ first_operator known.setup
  first_part_is = ap part_of_state whole
      ∙ first_begun_part known.setup p.script script workable p.numbers numbers p.seats.items seats slots slots_are group begins

  pub first_stands : OperatorStands p
  first_stands = record {
    script = subst (λ (k : Known). IsScriptOf k.setup p.script) (sym is_known) script;
    numbers = numbers;
    few = workable.few;
    peerings = workable.peerings;
    short = workable.short;
    ended = workable.ended;
    unissued = subst NoneIssued (sym tasks) unissued_there_first;
    keeps = subst OperatorInvariant (sym whole)
        (first_begun_keeps known.setup p.script script workable p.numbers numbers p.seats.items seats slots slots_are group begins);
  }

-- ---- what is left

module _ (o : AuditedOperator) (k : OperatorStands o) where
  pub nothing_left : o.tasks.items ≡ [] → first_open o.slots.items ≡ None → NothingIsLeft o
  nothing_left no_task none ScriptIsLeft left = some_unissued (operator_state o) k.keeps left no_task
  nothing_left no_task none (GraftIsLeft graft) left =
      let r = open_entry (operator_state o) k.keeps graft left in
      let e : true ≡ false = sym r.3 ∙ none_open o.slots.items none r.0 r.1 r.2 in
      cc
  nothing_left no_task none x left = left

  module _ (nothing : NothingIsLeft o) where
    pub no_task_left : o.tasks.items ≡ []
    no_task_left = by_list o.tasks.items refl
      where
        by_list : (tasks : List Task) → o.tasks.items ≡ tasks → o.tasks.items ≡ []
        by_list [] e = e
        by_list (task ∷ tasks) e =
            absurd (nothing ScriptIsLeft (unissued_there (operator_state o) k.keeps (λ none. let f : task ∷ tasks ≡ [] = sym e ∙ none in cc)))

    pub no_graft_open : first_open o.slots.items ≡ None
    no_graft_open = by_first (first_open o.slots.items) refl
      where
        by_first : (first : Option ℕ) → first_open o.slots.items ≡ first → first_open o.slots.items ≡ None
        by_first None e = e
        by_first (Some graft) e =
            let r : IsFirstOpen o.slots.items graft = first_is_open o.slots.items graft e in
            absurd (nothing (GraftIsLeft (r.index + 1)) (open_there (operator_state o) k.keeps r.index r.entry r.there r.open_is))

    -- ---- the next group

    pub not_held_up : (o.next ≡ length o.script.steps → ⊥) → IsHeldUp o.known.setup (operator_part o) → ⊥
    not_held_up further held =
        let last = last_settle o.known.setup o.script k.script k.ended in
        further (only_the_end (operator_state o) k.keeps no_task_left (first_open o.slots.items) refl (ap is_some no_graft_open) last.0 last.1 held
        ∙ sym (as_many_steps o.known.setup o.script k.script))

    module _ (free : IsHeldUp o.known.setup (operator_part o) → ⊥) (group : Group)
        (begins : IsGroupFrom o.script o.numbers o.seats.items o.next group) (p : AuditedOperator) (same : IsSteady o p)
        (state_is : operator_state p ≡ record (operator_state o) {
          group = o.group + 1;
          next = group.next;
          waiting = group.tasks.items;
          slots = give group.gifts o.slots.items;
        }) where
      abbrev then : State
      then = next_begun (operator_state o) k.keeps free o.script k.script o.numbers k.numbers group begins

      unissued_there_next : NoneIssued group.tasks.items
      unissued_there_next = none_issued o.known.setup o.script k.script o.numbers k.numbers o.seats.items o.next group begins

      state_then : operator_state p ≡ then
      state_then = next_begun_is (operator_state o) k.keeps free o.script k.script o.numbers k.numbers group begins (operator_state p)
          (state_is ∙ ap (λ (waiting : List Task). record (operator_state o) {
            group = o.group + 1;
            next = group.next;
            waiting = waiting;
            slots = give group.gifts o.slots.items;
          }) (sym (all_unissued group.tasks.items unissued_there_next)))

      pub next_group : DecidesOperator Go o Silent p
      next_group = silent o p k same then state_then
          (subst (λ (s : State). NoneIssued s.waiting) (sym state_is ∙ state_then) unissued_there_next)
          (next_begun_keeps (operator_state o) k.keeps free o.script k.script o.numbers k.numbers group begins) Go
          (next_begun_row (operator_state o) k.keeps free o.script k.script o.numbers k.numbers group begins)

  -- there is none
  pub no_further_group : o.next ≡ length o.script.steps → DecidesOperator Go o Refused o
  no_further_group at_end = refused o k Go (λ gave after row.
      let further = row.further in
      let begins = k.keeps.ends.begins in
      let all : group_of o.known.setup o.next ≡ groups_in o.known.setup =
      ap (group_of o.known.setup) (at_end ∙ as_many_steps o.known.setup o.script k.script) ∙ group_of_all o.known.setup in
      omega (arith, further, begins, all))
