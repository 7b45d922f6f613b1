use Rattle.std.proofs.Common.{List, [], None, refl, sym, ap, ◌∙◌}
use Rattle.std.specs.FinMap as map
use Rattle.bgp_types.specs.Tables.{first_above}
use Rattle.prefix_set.specs.Slots.{PrefixSet, Slot, lesser_of, united}
use Rattle.prefix_set.proofs.Slots.{keys_united, lesser_none}
use Rattle.prefix_set.proofs.due.PrefixSet.first.Goals as goal

pub returns-then-len-eq0 : goal.returns-then-len-eq0
returns-then-len-eq0 c =
    let i = c.self.inside in
    let late = i.late.contents in
    let others = united i.second (united i.third late) in
    let none = ap (λ (xs : List Slot). first_above None (map.keys (united xs (united i.third late)))) (c.if-is_empty.ensures refl)
    ∙ (ap (λ (xs : List Slot). first_above None (map.keys (united xs late))) (c.if-is_empty-2.ensures refl)
    ∙ ap (first_above None) (keys_united [] tt late (sym c.len.ensures ∙ c.if-len-eq0.true))) in
    sym (ap (λ (set : PrefixSet). first_above None (map.keys set)) (sym c.self.view_is)
    ∙ (c.first-first.ensures others
    ∙ (ap (lesser_of c.first-first.result) none
    ∙ lesser_none c.first-first.result)))
