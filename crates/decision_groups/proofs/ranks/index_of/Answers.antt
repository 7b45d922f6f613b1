use Rattle.std.proofs.Common.{rules, subst}
use Rattle.std.proofs.Math.Path.{fun_ext}
use Rattle.std.proofs.lemmas.List.Sorted.{answers_always}
use Rattle.std.specs.List.Sorted.{IsBinarySearchResult}
use Rattle.std.specs.declared.cmp.Ordering.{Ordering}
use Rattle.decision_groups.specs.Order.{RankedSource}
use Rattle.decision_groups.proofs.OrderLaws.{from_order_total, derived_order}
use Rattle.decision_groups.proofs.Indices.{searched}
use Rattle.decision_groups.proofs.ranks.index_of.Goals as goal

-- the closure gives an entry's source
pub returns-clause-found : goal.returns-clause-found
returns-clause-found c =
    let es = c.args.entries.now in
    let facts = c.binary_search_by_key.ensures in
    let by_key = facts.position (λ e. e.0) (answers_always _ _ _ (λ f a r h called. search rules)) in
    let by_order = subst (λ (f : RankedSource → Ordering). IsBinarySearchResult f es c.binary_search_by_key.result)
    (fun_ext (λ (e : RankedSource). derived_order e.0 c.args.from)) by_key in
    (searched from_order_total c.args.from es c.requires c.binary_search_by_key.result facts.bound by_order).found

pub returns-clause-absent : goal.returns-clause-absent
returns-clause-absent c =
    let es = c.args.entries.now in
    let facts = c.binary_search_by_key.ensures in
    let by_key = facts.position (λ e. e.0) (answers_always _ _ _ (λ f a r h called. search rules)) in
    let by_order = subst (λ (f : RankedSource → Ordering). IsBinarySearchResult f es c.binary_search_by_key.result)
    (fun_ext (λ (e : RankedSource). derived_order e.0 c.args.from)) by_key in
    (searched from_order_total c.args.from es c.requires c.binary_search_by_key.result facts.bound by_order).absent
