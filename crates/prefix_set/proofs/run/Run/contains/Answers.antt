use Rattle.std.proofs.Common.{Bool, List, refl, sym, ap, ◌∙◌, subst}
use Rattle.std.specs.Prelude.{is_some, ◌||◌}
use Rattle.std.specs.FinMap as map
use Rattle.bgp_types.specs.Tables.{prefix_cmp}
use Rattle.prefix_table.specs.Indices.{IsGapForPrefix, IsIndexOfPrefix}
use Rattle.prefix_table.proofs.Indices.{find_at, find_gap}
use Rattle.prefix_set.specs.Slots.{Slot, is_held, united}
use Rattle.prefix_set.proofs.Sets.{is_in_either}
use Rattle.prefix_set.proofs.run.Run.contains.Goals as goal

pub returns-then-is_before : goal.returns-then-is_before
returns-then-is_before c beside =
    let es = c.self.inside.slots.items in
    let out = ap (λ (xs : List Slot). is_held (map.find prefix_cmp c.args.prefix xs)) (sym c.deref.ensures.value) ∙ c.if-is_before.ensures refl in
    ap (λ (xs : List Slot). is_some (map.get (united xs beside) c.args.prefix)) (sym c.self.view_is)
    ∙ (is_in_either es c.self.invariant.rise beside c.args.prefix ∙ ap (λ (b : Bool). b || is_some (map.get beside c.args.prefix)) out)

pub returns-in-Ok : goal.returns-in-Ok
returns-in-Ok c beside =
    let es = c.self.inside.slots.items in
    let here = subst (λ (xs : List Slot). IsIndexOfPrefix xs c.args.prefix c.in-Ok.at) c.deref-2.ensures.value c.in-Ok.ensures.found in
    let held = ap is_held (find_at es c.args.prefix c.in-Ok.at here c.index.result.now) ∙ ap (λ (s : Slot). s.1) (sym c.index.ensures) in
    ap (λ (xs : List Slot). is_some (map.get (united xs beside) c.args.prefix)) (sym c.self.view_is)
    ∙ (is_in_either es c.self.invariant.rise beside c.args.prefix ∙ ap (λ (b : Bool). b || is_some (map.get beside c.args.prefix)) held)

pub returns-in-Err : goal.returns-in-Err
returns-in-Err c beside =
    let es = c.self.inside.slots.items in
    let gap = subst (λ (xs : List Slot). IsGapForPrefix xs c.args.prefix c.in-Err.field-0) c.deref-2.ensures.value c.in-Err.ensures.absent in
    ap (λ (xs : List Slot). is_some (map.get (united xs beside) c.args.prefix)) (sym c.self.view_is)
    ∙ (is_in_either es c.self.invariant.rise beside c.args.prefix
    ∙ ap (λ (b : Bool). b || is_some (map.get beside c.args.prefix)) (ap is_held (find_gap es c.args.prefix c.in-Err.field-0 gap)))
