use Rattle.std.proofs.Common.{◌≡◌, Some, None, sym, ap, ◌∙◌, subst, arith, rules}
use Rattle.decision_groups.specs.Order.{RankedSource, from_order, IsInOrder, rank_at, with_rank}
use Rattle.decision_groups.proofs.OrderLaws.{from_order_total}
use Rattle.decision_groups.proofs.Entries.{sorted-insert}
use Rattle.decision_groups.proofs.Indices.{index-within, gap-within, lookup_index, insert_over, lookup_gap, insert_gap}
use Rattle.decision_groups.proofs.ranks.Ranks.insert.Goals as goal

-- ---- where a rank was

pub index_mut-requires : goal.index_mut-requires
index_mut-requires c =
    let entries = c.self.inside.entries in
    let here = rw c.deref.ensures.value at c.in-Ok.ensures.found in
    omega (arith, entries.ok.0, index-within from_order c.args.from entries.items c.in-Ok.at here)

pub invariant_of-self : goal.invariant_of-self
invariant_of-self c =
    let es = c.self.inside.entries.items in
    let here = rw c.deref.ensures.value at c.in-Ok.ensures.found in
    subst IsInOrder (insert_over from_order c.args.from es c.in-Ok.at c.index_mut.result.now c.replace.new.dest c.index_mut.ensures.value here)
    (sorted-insert from_order_total c.args.from c.replace.new.dest es c.self.invariant)

pub returns-in-Ok-clause-replaced : goal.returns-in-Ok-clause-replaced
returns-in-Ok-clause-replaced c =
    let es = c.self.inside.entries.items in
    let here = rw c.deref.ensures.value at c.in-Ok.ensures.found in
    ap Some (c.replace.ensures.value ∙ ap (λ (e : RankedSource). e.1) c.index_mut.ensures.value)
    ∙ (sym (lookup_index from_order c.args.from es c.in-Ok.at c.index_mut.result.now here)
    ∙ ap (λ cs. rank_at cs c.args.from) c.self.view_is)

pub returns-in-Ok-clause-ok : goal.returns-in-Ok-clause-ok
returns-in-Ok-clause-ok c =
    let es = c.self.inside.entries.items in
    let here = rw c.deref.ensures.value at c.in-Ok.ensures.found in
    sym (insert_over from_order c.args.from es c.in-Ok.at c.index_mut.result.now c.replace.new.dest c.index_mut.ensures.value here)
    ∙ (ap (with_rank es c.args.from) c.replace.ensures.after
    ∙ ap (λ cs. with_rank cs c.args.from c.args.rank) c.self.view_is)

pub returns-in-Ok-clause-in_order : goal.returns-in-Ok-clause-in_order
returns-in-Ok-clause-in_order c = invariant_of-self c

-- ---- where there was none

pub insert-requires : goal.insert-requires
insert-requires c =
    let entries = c.self.inside.entries in
    let gap = rw c.deref.ensures.value at c.in-Err.ensures.absent in
    omega (arith, entries.ok.0, gap-within from_order c.args.from entries.items c.in-Err.at gap)

pub returns-in_err-insert-in-Err-clause-absent : goal.returns-in_err-insert-in-Err-clause-absent
returns-in_err-insert-in-Err-clause-absent c =
    let es = c.self.inside.entries.items in
    let gap = rw c.deref.ensures.value at c.in-Err.ensures.absent in
    let absent : rank_at c.args.self.now c.args.from ≡ None =
    ap (λ cs. rank_at cs c.args.from) (sym c.self.view_is) ∙ lookup_gap from_order c.args.from es c.in-Err.at gap in
    search rules

pub invariant_of-self-in-Err : goal.invariant_of-self-in-Err
invariant_of-self-in-Err c =
    let es = c.self.inside.entries.items in
    let gap = rw c.deref.ensures.value at c.in-Err.ensures.absent in
    subst IsInOrder (insert_gap from_order c.args.from es c.in-Err.at c.args.rank gap ∙ sym c.in_ok-insert-in-Err.ensures.items)
    (sorted-insert from_order_total c.args.from c.args.rank es c.self.invariant)

pub returns-in_ok-insert-in-Err-clause-replaced : goal.returns-in_ok-insert-in-Err-clause-replaced
returns-in_ok-insert-in-Err-clause-replaced c =
    let es = c.self.inside.entries.items in
    let gap = rw c.deref.ensures.value at c.in-Err.ensures.absent in
    sym (lookup_gap from_order c.args.from es c.in-Err.at gap) ∙ ap (λ cs. rank_at cs c.args.from) c.self.view_is

pub returns-in_ok-insert-in-Err-clause-ok : goal.returns-in_ok-insert-in-Err-clause-ok
returns-in_ok-insert-in-Err-clause-ok c =
    let es = c.self.inside.entries.items in
    let gap = rw c.deref.ensures.value at c.in-Err.ensures.absent in
    c.in_ok-insert-in-Err.ensures.items
    ∙ (sym (insert_gap from_order c.args.from es c.in-Err.at c.args.rank gap)
    ∙ ap (λ cs. with_rank cs c.args.from c.args.rank) c.self.view_is)

pub returns-in_ok-insert-in-Err-clause-in_order : goal.returns-in_ok-insert-in-Err-clause-in_order
returns-in_ok-insert-in-Err-clause-in_order c = invariant_of-self-in-Err c
