use Rattle.std.proofs.Common.{◌==◌, cond, List, Some, Result, Ok, Err, sym, ap, ◌∙◌, subst, arith}
use Rattle.std.specs.Result.{OnOk}
use Rattle.std.specs.List as list
use Rattle.std.specs.Ordering.{nat_cmp}
use Rattle.decision_groups.specs.Order.{RankedSource, with_rank}
use Rattle.decision_groups.specs.Groups.{NumberedGroup, AreNumbered, group_at, members_of}
use Rattle.decision_groups.proofs.Indices.{index-within, gap-within}
use Rattle.decision_groups.proofs.Numbered.{changed_numbers, group-changed, made_numbers, group-made}
use Rattle.decision_groups.proofs.groups.Groups.join.Goals as goal

on_ok : {T E P Q : Type 0} (r : Result T E) → OnOk r P → (P → Q) → OnOk r Q
on_ok (Ok x) h so = so h
on_ok (Err e) h so = tt

-- ---- where the neighbour AS has a group

pub index_mut-requires : goal.index_mut-requires
index_mut-requires c =
    let entries = c.self.inside.entries in
    let here = rw c.deref.ensures.value at c.in-Ok.ensures.found in
    omega (arith, entries.ok.0, index-within nat_cmp c.args.rank.neighbour entries.items c.in-Ok.at here)

pub invariant_of-self : goal.invariant_of-self
invariant_of-self c =
    let es = c.self.inside.entries.items in
    let here = rw c.deref.ensures.value at c.in-Ok.ensures.found in
    changed_numbers es c.args.rank.neighbour c.in-Ok.at c.index_mut.result.now c.index_mut.ensures.value here c.self.invariant c.set.new.self

pub returns-in-Ok-clause-ok : goal.returns-in-Ok-clause-ok
returns-in-Ok-clause-ok c =
    let es = c.self.inside.entries.items in
    let here = rw c.deref.ensures.value at c.in-Ok.ensures.found in
    on_ok c.set.result c.set.ensures.ok (λ set n.
    group-changed es c.args.rank.neighbour c.in-Ok.at c.index_mut.result.now c.index_mut.ensures.value here n
    (λ ms. with_rank ms c.args.from c.args.rank) c.set.new.self set
    ∙ ap (λ gs. cond (n == c.args.rank.neighbour) (Some (with_rank (members_of gs n) c.args.from c.args.rank)) (group_at gs n)) c.self.view_is)

-- ---- where it has none

pub insert-requires : goal.insert-requires
insert-requires c =
    let entries = c.self.inside.entries in
    let gap = rw c.deref.ensures.value at c.in-Err.ensures.absent in
    omega (arith, entries.ok.0, gap-within nat_cmp c.args.rank.neighbour entries.items c.in-Err.at gap)

pub invariant_of-self-in-Err : goal.invariant_of-self-in-Err
invariant_of-self-in-Err c =
    let es = c.self.inside.entries.items in
    let gap = rw c.deref.ensures.value at c.in-Err.ensures.absent in
    subst AreNumbered (sym c.in_ok-insert-in-Err.ensures.items)
    (made_numbers es c.args.rank.neighbour c.in-Err.at gap c.self.invariant c.in_ok-group-in-Err.group)

pub returns-in_ok-insert-in-Err-clause-ok : goal.returns-in_ok-insert-in-Err-clause-ok
returns-in_ok-insert-in-Err-clause-ok c n =
    let es = c.self.inside.entries.items in
    let gap = rw c.deref.ensures.value at c.in-Err.ensures.absent in
    ap (λ (gs : List NumberedGroup). group_at gs n) (c.in_ok-insert-in-Err.ensures.items
    ∙ ap (λ (ms : List RankedSource). list.insert es c.in-Err.at (c.args.rank.neighbour, ms)) c.in_ok-group-in-Err.ensures)
    ∙ (group-made es c.args.rank.neighbour c.in-Err.at gap n (λ ms. with_rank ms c.args.from c.args.rank)
    ∙ ap (λ gs. cond (n == c.args.rank.neighbour) (Some (with_rank (members_of gs n) c.args.from c.args.rank)) (group_at gs n)) c.self.view_is)
