use Rattle.std.proofs.Common.{◌≡◌, IfOk, ap, ◌∙◌, subst}
use Rattle.std.specs.FinMap as map
use Rattle.prefix_set.specs.Slots.{PrefixSet, united, with_all}
use Rattle.prefix_set.proofs.Sets.{with_keys}
use Rattle.prefix_set.proofs.due.PrefixSet.prefixes.Goals as goal

pub returns : goal.returns
returns c =
    let i = c.self.inside in
    let late = c.in_ok-add_all.ensures
    ∙ (ap (with_all c.new-all.result.contents) (c.deref.ensures ∙ c.in_ok-prefixes.ensures)
    ∙ (ap (λ (set : PrefixSet). with_all set (map.keys i.late.contents)) c.new-all.ensures.contents ∙ with_keys i.late.contents)) in
    let third = c.in_ok-add_all-2.ensures
    ∙ (ap (with_all c.add_all.new.table.contents) c.deref-2.ensures
    ∙ (c.in_ok-prefixes-2.ensures.all c.add_all.new.table.contents ∙ ap (united i.third) late)) in
    let second = c.in_ok-add_all-3.ensures
    ∙ (ap (with_all c.add_all-2.new.table.contents) c.deref-3.ensures
    ∙ (c.in_ok-prefixes-3.ensures.all c.add_all-2.new.table.contents ∙ ap (united i.second) third)) in
    let first = c.in_ok-add_all-4.ensures
    ∙ (ap (with_all c.add_all-3.new.table.contents) c.deref-4.ensures
    ∙ (c.in_ok-first.ensures.all c.add_all-3.new.table.contents ∙ ap (united i.first) second)) in
    subst (λ (set : PrefixSet). IfOk c.prefixes-5.result (λ prefixes. prefixes ≡ map.keys set)) (first ∙ c.self.view_is) c.prefixes-5.ensures
