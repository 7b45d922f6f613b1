use Rattle.std.proofs.Common.{List, [], ◌∷◌, ◌++◌, sym, ap, ◌∙◌, subst}
use Rattle.std.specs.List.Sorted.{IsStrictlySortedBy}
use Rattle.decision_groups.specs.Order.{RankedSource, IsInOrder}
use Rattle.decision_groups.proofs.ranks.Ranks.one.Goals as goal

pub invariant_of-result : goal.invariant_of-result
unfolding IsStrictlySortedBy
invariant_of-result c = subst IsInOrder
    (sym (c.in_ok-push.ensures.items ∙ ap (λ (ranks : List RankedSource). ranks ++ (c.args.from, c.args.rank) ∷ []) c.in_ok-entries.ensures.items)) (tt, tt)
