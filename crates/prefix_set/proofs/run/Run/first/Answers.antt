use Rattle.std.proofs.Common.{◌-◌, List, length, take, drop, Option, None, sym, ap, ◌∙◌}
use Rattle.std.specs.FinMap as map
use Rattle.bgp_types.specs.Prefixes.{PrefixValue}
use Rattle.bgp_types.specs.Tables.{first_above}
use Rattle.prefix_set.specs.Slots.{Slot, first_due_slot, lesser_of, united}
use Rattle.prefix_set.proofs.Slots.{first_past, first_united}
use Rattle.prefix_set.proofs.run.Run.first.Goals as goal

pub returns : goal.returns
returns c beside =
    let es = c.self.inside.slots.items in
    let start = c.self.inside.start in
    let first = c.first_of.ensures ∙ (ap (λ (xs : List Slot). first_due_slot (take (length xs - start) (drop start xs))) c.deref.ensures.value
    ∙ first_past es start c.self.invariant.out) in
    ap (λ (xs : List Slot). first_above None (map.keys (united xs beside))) (sym c.self.view_is)
    ∙ (first_united es c.self.invariant.rise beside
    ∙ ap (λ (o : Option PrefixValue). lesser_of o (first_above None (map.keys beside))) (sym first))
