use Rattle.std.proofs.Common.{◌≡◌, ◌+◌, ◌<◌, ◌≤◌, List, ℕ, length, ap, sym, subst, ◌∙◌, refl, arith}
use Rattle.std.specs.Prelude.{All}
use Rattle.std.specs.Vec.{with_items}
use Rattle.std.proofs.lemmas.List.{with_items_is}
use Rattle.operator_state.specs.declared.evacuate.Gift.{Gift}
use Rattle.operator_state.specs.declared.grafts.Seat.{Seat}
use Rattle.operator_state.specs.declared.grafts.Slot.{Slot}
use Rattle.operator_state.specs.Evacuate.{give}
use Rattle.operator_state.specs.Tasks.{unissued}
use Rattle.operator_state.specs.Groups.{NumbersFit, IsGroupFrom}
use Rattle.operator_state.specs.States.{part_of_state}
use Rattle.operator_state.specs.Holds.{IsHeldUp}
use Rattle.operator_core.specs.Progresses.{progress_state}
use Rattle.operator_state.proofs.Steps.{as_many_steps}
use Rattle.operator_core.proofs.Results.{differ}
use Rattle.operator_state.proofs.Gifts.{length_give}
use Rattle.operator_state.proofs.NextGroup.{group_is_small}
use Rattle.operator_state.proofs.Starts.{numbers_fit}
use Rattle.operator_core.proofs.Goes.{go_held, go_begins, next_gifts_fit}
use Rattle.operator_core.proofs.progress.Progress.go.Goals as goal

pub returns-then-is_held_up-clause-ok : goal.returns-then-is_held_up-clause-ok
returns-then-is_held_up-clause-ok g c = go_held c.args.self.now c.args.post.now c.requires (c.is_held_up.ensures.0 c.if-is_held_up.true)

pub group_from-requires-clause-numbered : goal.group_from-requires-clause-numbered
group_from-requires-clause-numbered g c = subst (NumbersFit c.args.self.now.script.steps) (sym c.as_slice.ensures)
    (numbers_fit (length c.args.self.now.script.starts) c.args.self.now.script.steps
    c.args.self.now.numbers c.requires.known.peerings c.requires.known.short c.requires.known.numbers)

pub give-requires : goal.give-requires
give-requires g c =
    let free : IsHeldUp c.args.self.now.known.setup (part_of_state (progress_state c.args.self.now)) → ⊥ =
    λ h. differ _ (c.is_held_up.ensures.1 h) c.if-is_held_up.false in
    let begins : IsGroupFrom c.args.self.now.script c.args.self.now.numbers c.args.self.now.seats.items c.args.self.now.next c.in_ok-group.group =
    subst (λ (ns : List ℕ). IsGroupFrom c.args.self.now.script ns c.args.self.now.seats.items c.args.self.now.next c.in_ok-group.group) c.as_slice.ensures
    (subst (λ (xs : List Seat). IsGroupFrom c.args.self.now.script c.as_slice.result.now xs c.args.self.now.next c.in_ok-group.group)
    c.deref.ensures.value c.in_ok-group.ensures) in
    subst (λ (xs : List Slot). All (λ (gift : Gift). (1 ≤ gift.graft) × (gift.graft ≤ length xs)) c.as_slice-2.result.now) (sym c.deref_mut.ensures.value)
    (subst (All (λ (gift : Gift). (1 ≤ gift.graft) × (gift.graft ≤ length c.args.self.now.slots.items))) (sym c.as_slice-2.ensures)
    (next_gifts_fit c.args.self.now c.requires free c.in_ok-group.group begins))

pub overflow_add-self : goal.overflow_add-self
overflow_add-self g c =
    let free : IsHeldUp c.args.self.now.known.setup (part_of_state (progress_state c.args.self.now)) → ⊥ =
    λ h. differ _ (c.is_held_up.ensures.1 h) c.if-is_held_up.false in
    let small : c.args.self.now.group + 1 < length c.args.self.now.known.setup.steps + 1 =
    group_is_small (progress_state c.args.self.now) c.requires.keeps free in
    let steps : length c.args.self.now.script.steps ≡ length c.args.self.now.known.setup.steps =
    as_many_steps c.args.self.now.known.setup c.args.self.now.script c.requires.known.script in
    let short : length c.args.self.now.script.steps ≤ 4097 = c.requires.known.short in
    omega arith

pub returns-clause-ok : goal.returns-clause-ok
returns-clause-ok g c =
    let free : IsHeldUp c.args.self.now.known.setup (part_of_state (progress_state c.args.self.now)) → ⊥ =
    λ h. differ _ (c.is_held_up.ensures.1 h) c.if-is_held_up.false in
    let begins : IsGroupFrom c.args.self.now.script c.args.self.now.numbers c.args.self.now.seats.items c.args.self.now.next c.in_ok-group.group =
    subst (λ (ns : List ℕ). IsGroupFrom c.args.self.now.script ns c.args.self.now.seats.items c.args.self.now.next c.in_ok-group.group) c.as_slice.ensures
    (subst (λ (xs : List Seat). IsGroupFrom c.args.self.now.script c.as_slice.result.now xs c.args.self.now.next c.in_ok-group.group)
    c.deref.ensures.value c.in_ok-group.ensures) in
    go_begins c.args.self.now c.requires free c.in_ok-group.group begins
    (record c.args.self.now {
      group = c.args.self.now.group + 1;
      next = c.in_ok-group.group.next;
      tasks = c.in_ok-group.group.tasks;
      slots = with_items c.args.self.now.slots c.give.new.slots;
    })
    c.args.post.now c.note_operator.new.post
    (record {
      script = c.requires.known.script;
      numbers = c.requires.known.numbers;
      few = c.requires.known.few;
      peerings = c.requires.known.peerings;
      short = c.requires.known.short;
      ended = c.requires.known.ended;
    }) refl
    (ap (λ (xs : List Slot). record (progress_state c.args.self.now) {
      group = c.args.self.now.group + 1;
      next = c.in_ok-group.group.next;
      waiting = unissued c.in_ok-group.group.tasks.items;
      slots = xs;
    })
    (with_items_is c.args.self.now.slots c.give.new.slots (ap (λ (xs : List Slot). length xs) c.give.ensures ∙ length_give c.as_slice-2.result.now
    c.deref_mut.result.now ∙ ap (λ (xs : List Slot). length xs) c.deref_mut.ensures.value ∙ sym c.args.self.now.slots.ok.0)
    ∙ c.give.ensures ∙ ap (λ (xs : List Slot). give c.as_slice-2.result.now xs) c.deref_mut.ensures.value
    ∙ ap (λ (gifts : List Gift). give gifts c.args.self.now.slots.items) c.as_slice-2.ensures))
    c.in_ok-note_operator.ensures.ok
