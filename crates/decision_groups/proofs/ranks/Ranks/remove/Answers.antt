use Rattle.std.proofs.Common.{Some, sym, ap, ◌∙◌, subst, arith}
use Rattle.std.specs.BTreeMap.{is_at}
use Rattle.decision_groups.specs.Order.{RankedSource, from_order, IsInOrder, rank_at, without_source}
use Rattle.decision_groups.proofs.Entries.{remove_absent, sorted-remove}
use Rattle.decision_groups.proofs.Indices.{index-within, lookup_index, remove_index, lookup_gap}
use Rattle.decision_groups.proofs.ranks.Ranks.remove.Goals as goal

pub remove-requires : goal.remove-requires
remove-requires c =
    let entries = c.self.inside.entries in
    let here = rw c.deref.ensures.value at c.in-Ok.ensures.found in
    omega (arith, entries.ok.0, index-within from_order c.args.from entries.items c.in-Ok.at here)

pub invariant_of-self : goal.invariant_of-self
invariant_of-self c =
    let es = c.self.inside.entries.items in
    let here = rw c.deref.ensures.value at c.in-Ok.ensures.found in
    subst IsInOrder (remove_index from_order c.args.from es c.in-Ok.at here ∙ sym c.remove.ensures.items)
    (sorted-remove from_order (is_at (from_order c.args.from)) es c.self.invariant)

pub returns-in-Ok-clause-removed : goal.returns-in-Ok-clause-removed
returns-in-Ok-clause-removed c =
    let es = c.self.inside.entries.items in
    let here = rw c.deref.ensures.value at c.in-Ok.ensures.found in
    ap (λ (e : RankedSource). Some e.1) c.remove.ensures.value
    ∙ (sym (lookup_index from_order c.args.from es c.in-Ok.at c.remove.result here)
    ∙ ap (λ cs. rank_at cs c.args.from) c.self.view_is)

pub returns-in-Ok-clause-left : goal.returns-in-Ok-clause-left
returns-in-Ok-clause-left c =
    let es = c.self.inside.entries.items in
    let here = rw c.deref.ensures.value at c.in-Ok.ensures.found in
    c.remove.ensures.items
    ∙ (sym (remove_index from_order c.args.from es c.in-Ok.at here)
    ∙ ap (λ cs. without_source cs c.args.from) c.self.view_is)

pub returns-in-Ok-clause-in_order : goal.returns-in-Ok-clause-in_order
returns-in-Ok-clause-in_order c = invariant_of-self c

pub returns-in-Err-clause-removed : goal.returns-in-Err-clause-removed
returns-in-Err-clause-removed c =
    let es = c.self.inside.entries.items in
    let gap = rw c.deref.ensures.value at c.in-Err.ensures.absent in
    sym (lookup_gap from_order c.args.from es c.in-Err.field-0 gap) ∙ ap (λ cs. rank_at cs c.args.from) c.self.view_is

pub returns-in-Err-clause-left : goal.returns-in-Err-clause-left
returns-in-Err-clause-left c =
    let es = c.self.inside.entries.items in
    let gap = rw c.deref.ensures.value at c.in-Err.ensures.absent in
    sym c.self.view_is
    ∙ (sym (remove_absent (is_at (from_order c.args.from)) es (lookup_gap from_order c.args.from es c.in-Err.field-0 gap))
    ∙ ap (λ cs. without_source cs c.args.from) c.self.view_is)
