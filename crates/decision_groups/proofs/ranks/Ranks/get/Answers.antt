use Rattle.std.proofs.Common.{Some, sym, ap, ◌∙◌, arith}
use Rattle.decision_groups.specs.Order.{RankedSource, from_order, rank_at}
use Rattle.decision_groups.proofs.Indices.{index-within, lookup_index, lookup_gap}
use Rattle.decision_groups.proofs.ranks.Ranks.get.Goals as goal

pub index-requires : goal.index-requires
index-requires c =
    let entries = c.self.inside.entries in
    let here = rw c.deref.ensures.value at c.in-Ok.ensures.found in
    omega (arith, entries.ok.0, index-within from_order c.args.from entries.items c.in-Ok.at here)

pub returns-in-Ok : goal.returns-in-Ok
returns-in-Ok c =
    let es = c.self.inside.entries.items in
    let here = rw c.deref.ensures.value at c.in-Ok.ensures.found in
    ap (λ (e : RankedSource). Some e.1) c.index.ensures
    ∙ (sym (lookup_index from_order c.args.from es c.in-Ok.at c.index.result.now here)
    ∙ ap (λ cs. rank_at cs c.args.from) c.self.view_is)

pub returns-in-Err : goal.returns-in-Err
returns-in-Err c =
    let es = c.self.inside.entries.items in
    let gap = rw c.deref.ensures.value at c.in-Err.ensures.absent in
    sym (lookup_gap from_order c.args.from es c.in-Err.field-0 gap)
    ∙ ap (λ cs. rank_at cs c.args.from) c.self.view_is
