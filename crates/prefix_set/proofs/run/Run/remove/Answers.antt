use Rattle.std.proofs.Common.{◌≡◌, false, List, refl, sym, ap, ◌∙◌, subst}
use Rattle.std.specs.FinMap as map
use Rattle.bgp_types.specs.Tables.{prefix_cmp}
use Rattle.prefix_table.specs.Indices.{IsIndexOfPrefix, IsGapForPrefix}
use Rattle.prefix_table.proofs.Indices.{put_at, find_gap}
use Rattle.prefix_set.specs.Slots.{Slot, is_held, united}
use Rattle.prefix_set.proofs.Sets.{remove_slot, remove_out}
use Rattle.prefix_set.proofs.Slots.{slots_out}
use Rattle.prefix_set.proofs.run.Run.remove.Goals as goal

pub returns-then-is_before : goal.returns-then-is_before
returns-then-is_before c beside =
    let out = ap (λ (xs : List Slot). is_held (map.find prefix_cmp c.args.prefix xs)) (sym c.deref.ensures.value) ∙ c.if-is_before.ensures refl in
    subst (λ (xs : List Slot). united xs (map.remove beside c.args.prefix) ≡ map.remove (united xs beside) c.args.prefix) c.self.view_is
    (remove_out c.self.inside.slots.items c.self.invariant.rise beside c.args.prefix out)

pub invariant_of-self : goal.invariant_of-self
invariant_of-self c =
    let here = subst (λ (xs : List Slot). IsIndexOfPrefix xs c.args.prefix c.in-Ok.at) c.deref-2.ensures.value c.in-Ok.ensures.found in
    slots_out c.self.inside.slots.items c.self.inside.start c.in-Ok.at c.args.prefix c.self.invariant here

pub returns-in-Ok : goal.returns-in-Ok
returns-in-Ok c beside =
    let es = c.self.inside.slots.items in
    let here = subst (λ (xs : List Slot). IsIndexOfPrefix xs c.args.prefix c.in-Ok.at) c.deref-2.ensures.value c.in-Ok.ensures.found in
    c.skip.ensures (map.remove beside c.args.prefix)
    ∙ (ap (λ (xs : List Slot). united xs (map.remove beside c.args.prefix)) (sym (put_at es c.args.prefix c.in-Ok.at here (c.args.prefix, false) false))
    ∙ (remove_slot es c.self.invariant.rise beside c.args.prefix
    ∙ ap (λ (xs : List Slot). map.remove (united xs beside) c.args.prefix) c.self.view_is))

pub returns-in_default : goal.returns-in_default
returns-in_default c beside =
    let es = c.self.inside.slots.items in
    let gap = subst (λ (xs : List Slot). IsGapForPrefix xs c.args.prefix c.in_default.field-0) c.deref-2.ensures.value c.in_default.ensures.absent in
    subst (λ (xs : List Slot). united xs (map.remove beside c.args.prefix) ≡ map.remove (united xs beside) c.args.prefix) c.self.view_is
    (remove_out es c.self.invariant.rise beside c.args.prefix (ap is_held (find_gap es c.args.prefix c.in_default.field-0 gap)))
