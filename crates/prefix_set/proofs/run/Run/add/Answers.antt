use Rattle.std.proofs.Common.{◌≡◌, true, List, refl, sym, ap, ◌∙◌, subst}
use Rattle.std.specs.FinMap as map
use Rattle.prefix_table.specs.Indices.{AllBelow, IsIndexOfPrefix}
use Rattle.prefix_table.proofs.Indices.{put_at}
use Rattle.prefix_set.specs.Slots.{Slot, AreSlots, united}
use Rattle.prefix_set.proofs.Sets.{insert_slot, insert_late}
use Rattle.prefix_set.proofs.Slots.{put_end, slots_push, slots_in}
use Rattle.prefix_set.proofs.run.Run.add.Goals as goal

pub invariant_of-self-then-is_past : goal.invariant_of-self-then-is_past
invariant_of-self-then-is_past c =
    let es = c.self.inside.slots.items in
    let below = subst (λ (xs : List Slot). AllBelow c.args.prefix xs) c.deref.ensures.value (c.if-is_past.ensures refl) in
    subst (λ (xs : List Slot). AreSlots xs c.self.inside.start) (sym c.in_ok-push.ensures.items)
    (slots_push es c.self.inside.start c.args.prefix c.self.invariant below)

pub returns-then-is_past-clause-taken : goal.returns-then-is_past-clause-taken
returns-then-is_past-clause-taken c same beside =
    let es = c.self.inside.slots.items in
    let below = subst (λ (xs : List Slot). AllBelow c.args.prefix xs) c.deref.ensures.value (c.if-is_past.ensures refl) in
    ap (λ (xs : List Slot). united xs beside) (c.in_ok-push.ensures.items ∙ sym (put_end es c.args.prefix true below))
    ∙ (insert_slot es c.self.invariant.rise beside c.args.prefix
    ∙ ap (λ (xs : List Slot). map.insert (united xs beside) c.args.prefix tt) c.self.view_is)

pub invariant_of-self-then-at-self : goal.invariant_of-self-then-at-self
invariant_of-self-then-at-self c =
    let es = c.self.inside.slots.items in
    let here = subst (λ (xs : List Slot). IsIndexOfPrefix xs c.args.prefix c.in-Ok.at) c.deref-2.ensures.value c.in-Ok.ensures.found in
    slots_in es c.self.inside.start c.in-Ok.at c.args.prefix c.self.invariant here c.if-at-self.true

pub returns-in-Ok-clause-taken : goal.returns-in-Ok-clause-taken
returns-in-Ok-clause-taken c same beside =
    let es = c.self.inside.slots.items in
    let here = subst (λ (xs : List Slot). IsIndexOfPrefix xs c.args.prefix c.in-Ok.at) c.deref-2.ensures.value c.in-Ok.ensures.found in
    ap (λ (xs : List Slot). united xs beside) (sym (put_at es c.args.prefix c.in-Ok.at here (c.args.prefix, true) true))
    ∙ (insert_slot es c.self.invariant.rise beside c.args.prefix
    ∙ ap (λ (xs : List Slot). map.insert (united xs beside) c.args.prefix tt) c.self.view_is)

pub returns-in_default-clause-passed : goal.returns-in_default-clause-passed
returns-in_default-clause-passed c same beside =
    subst (λ (xs : List Slot). united xs (map.insert beside c.args.prefix tt) ≡ map.insert (united xs beside) c.args.prefix tt) c.self.view_is
    (insert_late c.self.inside.slots.items c.self.invariant.rise beside c.args.prefix)

pub returns-in_default-2-clause-passed : goal.returns-in_default-2-clause-passed
returns-in_default-2-clause-passed c same beside =
    subst (λ (xs : List Slot). united xs (map.insert beside c.args.prefix tt) ≡ map.insert (united xs beside) c.args.prefix tt) c.self.view_is
    (insert_late c.self.inside.slots.items c.self.invariant.rise beside c.args.prefix)
