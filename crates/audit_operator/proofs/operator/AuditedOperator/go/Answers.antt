use Rattle.std.proofs.Common.{◌+◌, ◌≤◌, List, ℕ, length, ap, sym, subst, ◌∙◌, refl, arith}
use Rattle.std.specs.Prelude.{All}
use Rattle.std.specs.Vec.{with_items}
use Rattle.std.proofs.lemmas.List.{with_items_is}
use Rattle.operator_state.specs.declared.evacuate.Gift.{Gift}
use Rattle.operator_state.specs.declared.grafts.Seat.{Seat}
use Rattle.operator_state.specs.declared.grafts.Slot.{Slot}
use Rattle.operator_state.specs.Evacuate.{give}
use Rattle.operator_state.specs.Groups.{NumbersFit, IsGroupFrom}
use Rattle.operator_state.specs.Holds.{IsHeldUp}
use Rattle.operator_state.proofs.Gifts.{length_give}
use Rattle.operator_state.proofs.NextGroup.{group_is_small}
use Rattle.operator_state.proofs.Starts.{numbers_fit, next_fits}
use Rattle.operator_state.proofs.Steps.{as_many_steps}
use Rattle.audit_operator.specs.Parts.{operator_part, operator_state}
use Rattle.audit_operator.proofs.Groups.{next_group, no_further_group, not_held_up}
use Rattle.audit_operator.proofs.operator.AuditedOperator.go.Goals as goal

pub returns-then-self-len : goal.returns-then-self-len
returns-then-self-len c = no_further_group c.args.self.now c.requires.sound (c.if-self-len.true ∙ c.len.ensures)

pub group_from-requires-clause-within : goal.group_from-requires-clause-within
group_from-requires-clause-within c =
    let steps = as_many_steps c.args.self.now.known.setup c.args.self.now.script c.requires.sound.script in
    let within = c.requires.sound.keeps.ends.within in
    omega (arith, steps, within, c.if-self-len.false, c.len.ensures)

pub group_from-requires-clause-numbered : goal.group_from-requires-clause-numbered
group_from-requires-clause-numbered c = subst (NumbersFit c.args.self.now.script.steps) (sym c.as_slice.ensures)
    (numbers_fit (length c.args.self.now.script.starts) c.args.self.now.script.steps
    c.args.self.now.numbers c.requires.sound.peerings c.requires.sound.short c.requires.sound.numbers)

pub give-requires : goal.give-requires
give-requires c =
    let o = c.args.self.now in
    let free : IsHeldUp o.known.setup (operator_part o) → ⊥ =
    not_held_up o c.requires.sound c.requires.nothing (λ at_end. c.if-self-len.false (at_end ∙ sym c.len.ensures)) in
    let begins : IsGroupFrom o.script o.numbers o.seats.items o.next c.in_ok-group.group =
    subst (λ (ns : List ℕ). IsGroupFrom o.script ns o.seats.items o.next c.in_ok-group.group) c.as_slice.ensures
    (subst (λ (xs : List Seat). IsGroupFrom o.script c.as_slice.result.now xs o.next c.in_ok-group.group) c.deref.ensures.value c.in_ok-group.ensures) in
    subst (λ (xs : List Slot). All (λ (gift : Gift). (1 ≤ gift.graft) × (gift.graft ≤ length xs)) c.as_slice-2.result.now) (sym c.deref_mut.ensures.value)
    (subst (All (λ (gift : Gift). (1 ≤ gift.graft) × (gift.graft ≤ length o.slots.items))) (sym c.as_slice-2.ensures)
    (next_fits (operator_state o) c.requires.sound.keeps free o.script c.requires.sound.script o.numbers c.requires.sound.numbers c.in_ok-group.group begins))

pub overflow_add-self : goal.overflow_add-self
overflow_add-self c =
    let o = c.args.self.now in
    let free : IsHeldUp o.known.setup (operator_part o) → ⊥ =
    not_held_up o c.requires.sound c.requires.nothing (λ at_end. c.if-self-len.false (at_end ∙ sym c.len.ensures)) in
    let small = group_is_small (operator_state o) c.requires.sound.keeps free in
    let steps = as_many_steps o.known.setup o.script c.requires.sound.script in
    let short = c.requires.sound.short in
    omega (arith, small, steps, short)

pub returns : goal.returns
returns c =
    let o = c.args.self.now in
    let free : IsHeldUp o.known.setup (operator_part o) → ⊥ =
    not_held_up o c.requires.sound c.requires.nothing (λ at_end. c.if-self-len.false (at_end ∙ sym c.len.ensures)) in
    let begins : IsGroupFrom o.script o.numbers o.seats.items o.next c.in_ok-group.group =
    subst (λ (ns : List ℕ). IsGroupFrom o.script ns o.seats.items o.next c.in_ok-group.group) c.as_slice.ensures
    (subst (λ (xs : List Seat). IsGroupFrom o.script c.as_slice.result.now xs o.next c.in_ok-group.group) c.deref.ensures.value c.in_ok-group.ensures) in
    next_group o c.requires.sound c.requires.nothing free c.in_ok-group.group begins
    (record o {
      group = o.group + 1;
      next = c.in_ok-group.group.next;
      tasks = c.in_ok-group.group.tasks;
      slots = with_items o.slots c.give.new.slots;
    })
    (record { known = refl; script = refl; numbers = refl })
    (ap (λ (xs : List Slot). record (operator_state o) {
      group = o.group + 1;
      next = c.in_ok-group.group.next;
      waiting = c.in_ok-group.group.tasks.items;
      slots = xs;
    })
    (with_items_is o.slots c.give.new.slots (ap (λ (xs : List Slot). length xs) c.give.ensures ∙ length_give c.as_slice-2.result.now
    c.deref_mut.result.now ∙ ap (λ (xs : List Slot). length xs) c.deref_mut.ensures.value ∙ sym o.slots.ok.0)
    ∙ c.give.ensures ∙ ap (λ (xs : List Slot). give c.as_slice-2.result.now xs) c.deref_mut.ensures.value
    ∙ ap (λ (gifts : List Gift). give gifts o.slots.items) c.as_slice-2.ensures))
