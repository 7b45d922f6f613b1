use Rattle.std.proofs.Common.{◌≡◌, ◌≤◌, List, ℕ, length, map, ap, sym, subst, ◌∙◌, refl}
use Rattle.std.specs.Prelude.{All}
use Rattle.std.specs.Vec.{with_items}
use Rattle.std.proofs.lemmas.List.{with_items_is}
use Rattle.operator_state.specs.declared.evacuate.Gift.{Gift}
use Rattle.operator_state.specs.declared.grafts.Seat.{Seat}
use Rattle.operator_state.specs.declared.grafts.Slot.{Slot}
use Rattle.actor_configs.specs.declared.script.ScriptStep.{ScriptStep}
use Rattle.operator_state.specs.Grafts.{seat_at}
use Rattle.operator_state.specs.Slots.{first_slots}
use Rattle.operator_state.specs.Evacuate.{give}
use Rattle.operator_state.specs.Groups.{AreNumbers, NumbersFit, IsGroupFrom}
use Rattle.operator_state.proofs.Gifts.{length_give}
use Rattle.operator_state.proofs.Starts.{numbers_fit, first_fits}
use Rattle.audit_operator.specs.declared.operator.AuditedOperator.{AuditedOperator}
use Rattle.audit_operator.proofs.Groups.{first_part_is, first_stands}
use Rattle.audit_operator.proofs.operator.AuditedOperator.new.Goals as goal

pub group_from-requires-clause-numbered : goal.group_from-requires-clause-numbered
group_from-requires-clause-numbered c =
    let numbers : AreNumbers (length c.args.script.starts) c.args.script.steps c.in_ok-numbers.numbers =
    subst (λ (n : ℕ). AreNumbers n c.args.script.steps c.in_ok-numbers.numbers) c.len-peerings.ensures
    (subst (λ (xs : List ScriptStep). AreNumbers c.len-peerings.result xs c.in_ok-numbers.numbers) c.as_slice-steps.ensures c.in_ok-numbers.ensures) in
    subst (NumbersFit c.args.script.steps) (sym c.as_slice-2.ensures)
    (numbers_fit (length c.args.script.starts) c.args.script.steps c.in_ok-numbers.numbers c.requires.workable.peerings c.requires.workable.short numbers)

pub give-requires : goal.give-requires
give-requires c =
    let numbers : AreNumbers (length c.args.script.starts) c.args.script.steps c.in_ok-numbers.numbers =
    subst (λ (n : ℕ). AreNumbers n c.args.script.steps c.in_ok-numbers.numbers) c.len-peerings.ensures
    (subst (λ (xs : List ScriptStep). AreNumbers c.len-peerings.result xs c.in_ok-numbers.numbers) c.as_slice-steps.ensures c.in_ok-numbers.ensures) in
    let seats : c.in_ok-seats.seats.items ≡ map seat_at c.args.script.starts = c.in_ok-seats.ensures ∙ ap (map seat_at) c.as_slice.ensures in
    let slots : c.in_ok-slots.slots.items ≡ first_slots (length c.args.script.starts) 0 c.args.script.steps =
    c.in_ok-slots.ensures ∙ ap (λ (n : ℕ). first_slots n 0 c.as_slice-steps.result.now) c.len-peerings.ensures
    ∙ ap (first_slots (length c.args.script.starts) 0) c.as_slice-steps.ensures in
    let begins : IsGroupFrom c.args.script c.in_ok-numbers.numbers c.in_ok-seats.seats.items 0 c.in_ok-first.first =
    subst (λ (ns : List ℕ). IsGroupFrom c.args.script ns c.in_ok-seats.seats.items 0 c.in_ok-first.first) c.as_slice-2.ensures
    (subst (λ (xs : List Seat). IsGroupFrom c.args.script c.as_slice-2.result.now xs 0 c.in_ok-first.first) c.deref.ensures.value c.in_ok-first.ensures) in
    subst (λ (xs : List Slot). All (λ (gift : Gift). (1 ≤ gift.graft) × (gift.graft ≤ length xs)) c.as_slice-3.result.now) (sym c.deref_mut.ensures.value)
    (subst (All (λ (gift : Gift). (1 ≤ gift.graft) × (gift.graft ≤ length c.in_ok-slots.slots.items))) (sym c.as_slice-3.ensures)
    (first_fits c.args.known.setup c.args.script c.requires.script c.requires.workable c.in_ok-numbers.numbers
    numbers c.in_ok-seats.seats.items seats c.in_ok-slots.slots.items slots c.in_ok-first.first begins))

pub returns : goal.returns
returns c =
    let numbers : AreNumbers (length c.args.script.starts) c.args.script.steps c.in_ok-numbers.numbers =
    subst (λ (n : ℕ). AreNumbers n c.args.script.steps c.in_ok-numbers.numbers) c.len-peerings.ensures
    (subst (λ (xs : List ScriptStep). AreNumbers c.len-peerings.result xs c.in_ok-numbers.numbers) c.as_slice-steps.ensures c.in_ok-numbers.ensures) in
    let seats : c.in_ok-seats.seats.items ≡ map seat_at c.args.script.starts = c.in_ok-seats.ensures ∙ ap (map seat_at) c.as_slice.ensures in
    let slots : c.in_ok-slots.slots.items ≡ first_slots (length c.args.script.starts) 0 c.args.script.steps =
    c.in_ok-slots.ensures ∙ ap (λ (n : ℕ). first_slots n 0 c.as_slice-steps.result.now) c.len-peerings.ensures
    ∙ ap (first_slots (length c.args.script.starts) 0) c.as_slice-steps.ensures in
    let begins : IsGroupFrom c.args.script c.in_ok-numbers.numbers c.in_ok-seats.seats.items 0 c.in_ok-first.first =
    subst (λ (ns : List ℕ). IsGroupFrom c.args.script ns c.in_ok-seats.seats.items 0 c.in_ok-first.first) c.as_slice-2.ensures
    (subst (λ (xs : List Seat). IsGroupFrom c.args.script c.as_slice-2.result.now xs 0 c.in_ok-first.first) c.deref.ensures.value c.in_ok-first.ensures) in
    let given : (with_items c.in_ok-slots.slots c.give.new.slots).items ≡ give c.in_ok-first.first.gifts c.in_ok-slots.slots.items =
    with_items_is c.in_ok-slots.slots c.give.new.slots (ap (λ (xs : List Slot). length xs) c.give.ensures ∙ length_give c.as_slice-3.result.now
    c.deref_mut.result.now ∙ ap (λ (xs : List Slot). length xs) c.deref_mut.ensures.value ∙ sym c.in_ok-slots.slots.ok.0)
    ∙ c.give.ensures ∙ ap (λ (xs : List Slot). give c.as_slice-3.result.now xs) c.deref_mut.ensures.value
    ∙ ap (λ (gifts : List Gift). give gifts c.in_ok-slots.slots.items) c.as_slice-3.ensures in
    let operator : AuditedOperator = record {
      alloc = c.args.alloc;
      known = c.args.known;
      script = c.args.script;
      numbers = c.in_ok-numbers.numbers;
      group = 0;
      next = c.in_ok-first.first.next;
      tasks = c.in_ok-first.first.tasks;
      slots = with_items c.in_ok-slots.slots c.give.new.slots;
      seats = c.in_ok-seats.seats;
    } in
    record {
      setup = refl;
      first = first_part_is c.args.known operator refl c.requires.script c.requires.workable numbers seats c.in_ok-slots.slots.items slots
          c.in_ok-first.first begins refl refl refl given;
      sound = first_stands c.args.known operator refl c.requires.script c.requires.workable numbers seats c.in_ok-slots.slots.items slots
          c.in_ok-first.first begins refl refl refl given;
    }
